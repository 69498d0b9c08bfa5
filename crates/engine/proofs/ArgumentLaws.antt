-- The arguments of a call: past a term, to the last variable on an argument's way, and parameters bound one after the other.
use Prim.Native.Nat.{ℕ, suc, ◌+◌, ◌-◌, ◌≤◌, ◌<◌}
use mathlib.Core.Path.{◌≡◌, refl, sym, ap, subst, ◌∙◌}
use mathlib.Core.Option.{some-injective, some}
use mathlib.Core.List.{List, [], ◌∷◌}
use native.Mathlib.Omega.{arith}
use lib.ListN.{length}
use Rattle.word.specs.Kind.{kind_number}
use Rattle.word.specs.declared.kind.Kind.{Kind}
use Rattle.word.specs.declared.kind.Kind.TheVariants.{Variable}
use Rattle.word.proofs.KindLaws.{kind_number_other}
use Rattle.rules.specs.Lists.{Each}
use Rattle.rules.specs.Syntax.{Term, var, atom, pair}
use Rattle.semantics.specs.Substitution.{shift, Substitution, lookup, argument}
use Rattle.semantics.specs.Path.{bind_params}
use Rattle.semantics.specs.Invariant.{TermIn, Vars}
use Rattle.semantics.proofs.Basics.{each_map}
use Rattle.semantics.proofs.SubstitutionLaws.{Last, last_here, last_some, in_open}
use Rattle.semantics.proofs.TermLaws.{term_more, term_size}
use Rattle.semantics.proofs.Sound.{sound_call}
use Rattle.engine.specs.Reference.{at, TermsAt, refer, pos_of, base_of, Stands}
use Rattle.engine.specs.Memory.{BoundTo, Entry, BindingsIn, bound}
use Rattle.engine.specs.Walk.{PartRead, Follows}
use Rattle.engine.specs.Call.{BindingParameters, ParametersBound}
use Rattle.engine.specs.Trail.{Apart}
use Rattle.rules.specs.Settings.{most_words}
use Rattle.engine.proofs.ReferenceLaws.{stands_at, term_longer, terms_longer, atom_low}
use Rattle.engine.proofs.GoalLaws.{term_shift}
use Rattle.engine.proofs.WalkLaws.{Binding, binding_at}
use Rattle.engine.proofs.TrailLaws.{fresh_room, bind_in, apart_trans, bound_apart}

-- The last variable.

argument_here : (bs : Substitution) (x : ℕ) → Last bs x → argument bs (var x) ≡ var x
argument_here bs x l = ap var (last_here (length bs) bs x l)

-- the loop stops at an open variable ..
pub last_open : {ws s : List ℕ} {bs : Substitution} {w b k p x : ℕ} {t : Term} → Follows ws s bs w t → PartRead ws w b k p → x ≡ base_of w + p → at s x ≡ 0 → Stands ws w (argument bs t)
last_open {ws} {s} {bs} {w} {x = x} {t = var y} f i is_x z = subst (Stands ws w) (sym (argument_here bs y (λ u l. go u l))) f.stands
  where
    same_x : x ≡ y
    same_x = omega (arith, is_x, f.stands.reads.1, i.is_payload)

    go : (u : ℕ) → lookup bs y ≡ some (var u) → ⊥
    go u l =
        let entry : BoundTo ws (at s y) (var u) = subst (λ o. Entry ws (at s y) o) l (f.binds.bindings_in.words y f.stands.in_range) in
        let zero_there : at s y ≡ 0 = subst (λ v. at s v ≡ 0) same_x z in
        omega (arith, entry.some_word)
last_open {t = atom a} f i is_x z = f.stands
last_open {t = pair u v} f i is_x z = f.stands

-- .. and at a variable that is bound to none
pub last_stop : {ws s : List ℕ} {bs : Substitution} {w b k p x c q : ℕ} {t : Term} (l : Kind) → Follows ws s bs w t → PartRead ws w b k p → x ≡ base_of w + p → ¬ (at s x ≡ 0)
    → PartRead ws (at s x - 1) c (kind_number l) q → ¬ (l ≡ Variable) → Stands ws w (argument bs t)
last_stop {ws} {s} {bs} {w} {x = x} {t = var y} l f i is_x n j m = subst (Stands ws w) (sym (argument_here bs y (λ u lk. go u lk))) f.stands
  where
    same_x : x ≡ y
    same_x = omega (arith, is_x, f.stands.reads.1, i.is_payload)

    go : (u : ℕ) → lookup bs y ≡ some (var u) → ⊥
    go u lk =
        let h : Binding ws s bs x = binding_at x f.binds.bindings_in (omega (arith, same_x, f.stands.in_range)) n in
        let same_u : h.term ≡ var u = some-injective _ _ (sym h.is ∙ ap (lookup bs) same_x ∙ lk) in
        let st : Stands ws (at s x - 1) (var u) = subst (Stands ws (at s x - 1)) same_u h.stands in
        kind_number_other l Variable m (j.is_kind ∙ st.reads.0)
last_stop {t = atom a} l f i is_x n j m = f.stands
last_stop {t = pair u v} l f i is_x n j m = f.stands

-- else it goes on
pub last_onward : {ws s : List ℕ} {bs : Substitution} {w b p x c q : ℕ} {t a : Term} (k l : Kind) → Follows ws s bs w t → argument bs t ≡ a → PartRead ws w b (kind_number k) p → k ≡ Variable
    → x ≡ base_of w + p → ¬ (at s x ≡ 0) → PartRead ws (at s x - 1) c (kind_number l) q → l ≡ Variable → (u : Term) × Follows ws s bs (at s x - 1) u × (argument bs u ≡ a)
last_onward {ws} {s} {bs} {w} {x = x} {t = t₁} {a = last} k l f same i e is_x n j m = start t₁ f same
  where
    is_variable : kind_number k ≡ 0
    is_variable = ap kind_number e

    is_next : kind_number l ≡ 0
    is_next = ap kind_number m

    start : (t : Term) → Follows ws s bs w t → argument bs t ≡ last → (u : Term) × Follows ws s bs (at s x - 1) u × (argument bs u ≡ last)
    start (atom a) f same = absurd (omega (arith, (atom_low (at ws (pos_of w)) a f.stands.reads.0).0, i.is_kind, is_variable))
    start (pair u v) f same = absurd (omega (arith, f.stands.reads.0, i.is_kind, is_variable))
    start (var y) f same = go h.term h.is h.stands
      where
        same_x : x ≡ y
        same_x = omega (arith, is_x, f.stands.reads.1, i.is_payload)

        h : Binding ws s bs x
        h = binding_at x f.binds.bindings_in (omega (arith, same_x, f.stands.in_range)) n

        go : (u : Term) → lookup bs x ≡ some u → Stands ws (at s x - 1) u → (u : Term) × Follows ws s bs (at s x - 1) u × (argument bs u ≡ last)
        go (var z) lk st = (var z, record { binds = f.binds; stands = st }, ap var (sym (last_some bs f.binds.good y z (ap (lookup bs) (sym same_x) ∙ lk))) ∙ same)
        go (atom a) lk st = absurd (omega (arith, (atom_low (at ws (pos_of (at s x - 1))) a st.reads.0).0, j.is_kind, is_next))
        go (pair u v) lk st = absurd (omega (arith, st.reads.0, j.is_kind, is_next))

-- Parameters bound, one after the other.

-- variables below a bound of at most 2,048
pub term_vars : (v : ℕ) (t : Term) → v ≤ 2048 → TermIn v t → Vars (λ x. x < 2048) t
term_vars v (var x) le h = omega arith
term_vars v (atom a) le h = tt
term_vars v (pair s t) le h = (term_vars v s le h.0, term_vars v t le h.1)

-- the first argument that is left
pub record First (ws s : List ℕ) (base to : ℕ) (x n w : ℕ) (ts : List Term) : Type 0 where
  pub now_bound : Substitution
  pub term : Term
  pub later : List Term
  pub are : ts ≡ term ∷ later
  pub mid : ℕ
  pub next_at : TermsAt ws 0 mid to later
  pub in_range : TermIn x (shift base term)
  pub later_in : Each (λ t. TermIn x (shift base t)) later
  pub follows : Follows ws s now_bound w (shift base term)
  pub ends : (q : ℕ) → ((t : Term) (h : Stands ws w t) → q + pos_of w ≡ w + h.to) → q ≡ refer mid base
  pub is_new : x < 2048
  pub room : n < 2048

pub pass_first : {ws s₀ s : List ℕ} {base to : ℕ} {whole : Substitution} {x n w count : ℕ} (p : BindingParameters ws s₀ s base to whole x n w count) → 0 < count → First ws s base to x n w p.args
unfolding stands_at
pass_first {ws} {s = s} {base = base} {to = to} {x = x} {n = n} {w = w} {count = count} p some_left = go p.args p.many p.terms p.in_range
  where
    bs : Substitution
    bs = p.now_bound

    go : (ts : List Term) → length ts ≡ count → TermsAt ws 0 p.from to ts → Each (λ t. TermIn x (shift base t)) ts → First ws s base to x n w ts
    go [] e h i = absurd (omega (arith, e))
    go (t ∷ ts) e h i =
        let from : ℕ = p.from in
        let mid : ℕ = h.0 in
        let l₁ : from + term_size t < mid = term_longer ws 0 from mid t h.1 in
        let l : mid ≤ to = terms_longer ws 0 mid to ts h.2 in
        let ins : to ≤ length ws = p.inside in
        let short : length ws ≤ most_words = p.short in
        let f : x + count ≤ 2048 = p.fits in
        let low : base ≤ 2048 = p.low in
        let is_w : w ≡ refer from base = p.is_w in
        let x_new : x < 2048 = omega (arith, e) in
        let st : Stands ws w (shift base t) = stands_at ws base from mid w (shift base t) is_w (term_shift ws base from mid t h.1) (omega arith) (omega arith) low (term_vars x (shift base t) (omega arith) i.0) in
        record {
          now_bound = bs;
          term = t;
          later = ts;
          are = refl;
          mid = mid;
          next_at = h.2;
          in_range = i.0;
          later_in = i.1;
          follows = record { binds = record { short = short; long = p.long; bindings_in = p.bindings_in; good = p.sound.good }; stands = st };
          ends = λ q is. let e : q + pos_of w ≡ w + mid = is (shift base t) st in omega (arith, e);
          is_new = x_new;
          room = omega (arith, p.is_n, fresh_room bs x t p.bindings_in.fresh x_new (in_open x bs p.sound.scope x (omega arith)));
        }

pub pass_step : {ws s₀ s : List ℕ} {base to : ℕ} {whole : Substitution} {x n w count v next n' x' left : ℕ} {s' : List ℕ} → BindingParameters ws s₀ s base to whole x n w count → x' ≡ x + 1 → count ≡ left + 1
    → ((bs : Substitution) (t : Term) → Follows ws s bs w t → Stands ws v (argument bs t)) → ((t : Term) (h : Stands ws w t) → next + pos_of w ≡ w + h.to)
    → n' ≡ n + 1 → s' ≡ bound s x v n → BindingParameters ws s₀ s' base to whole x' n' next left
pass_step {ws} {s₀} {s} {base} {to} {whole} {x} {n} {w} {count} {v} {next} {n'} {x'} {left} {s'} p is-x' is-left last-is next_is is-n' is-s' =
    let bs : Substitution = p.now_bound in
    let first : First ws s base to x n w p.args = pass_first p (omega arith) in
    let t : Term = first.term in
    let u : Term = argument bs (shift base t) in
    let fits : x + count ≤ 2048 = p.fits in
    let many : suc (length first.later) ≡ count = ap length (sym first.are) ∙ p.many in
    let lt : x < 2048 = first.is_new in
    let suc_x : suc x ≡ x + 1 = omega arith in
    let apart_here : Apart s (bound s x v n) = bound_apart s x v n lt first.room in
    let f : Follows ws s bs w (shift base t) = record { binds = record { short = p.short; long = p.long; bindings_in = p.bindings_in; good = p.sound.good }; stands = first.follows.stands } in
    let leads : bind_params (suc x) base first.later ((x, u) ∷ bs) ≡ whole = ap (λ ts. bind_params x base ts bs) (sym first.are) ∙ p.leads in
    rw (is-x', is-n', is-s') (record {
      from = first.mid;
      is_w = first.ends next next_is;
      args = first.later;
      now_bound = (x, u) ∷ bs;
      kept = p.kept;
      leads = subst (λ y. bind_params y base first.later ((x, u) ∷ bs) ≡ whole) suc_x leads;
      many = omega (arith, many);
      terms = first.next_at;
      inside = p.inside;
      short = p.short;
      low = p.low;
      is_n = omega (arith, p.is_n);
      sound = sound_call bs p.kept x base 1 (t ∷ []) p.sound (first.in_range, tt) (omega arith) (omega arith);
      in_range = each_map (λ y k. term_more x (x + 1) (shift base y) (omega arith) k) first.later first.later_in;
      fits = omega (arith, many);
      long = omega (arith, p.long, apart_here.long);
      bindings_in = subst (λ m. BindingsIn ws (bound s x v m) ((x, u) ∷ bs)) (sym p.is_n) (bind_in ws s bs x v u (omega (arith, p.long)) lt (in_open x bs p.sound.scope x (omega arith)) (last-is bs (shift base t) f) p.bindings_in);
      apart = apart_trans p.apart apart_here;
    })

-- all are passed
pub pass_end : {ws s₀ s : List ℕ} {base to : ℕ} {whole : Substitution} {x n w count : ℕ} → BindingParameters ws s₀ s base to whole x n w count → count ≡ 0 → ParametersBound ws s₀ s whole n
pass_end {ws} {s₀} {s} {base} {whole = whole} {x = x} {n = n} {count = count} p none_left = go p.args p.many p.leads
  where
    go : (ts : List Term) → length ts ≡ count → bind_params x base ts p.now_bound ≡ whole → ParametersBound ws s₀ s whole n
    go [] e l = record { bindings_in = subst (BindingsIn ws s) l p.bindings_in; apart = p.apart; is_n = p.is_n ∙ ap length l }
    go (t ∷ ts) e l = absurd (omega (arith, e))
