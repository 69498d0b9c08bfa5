-- What `unify` comes to: bindings with the same solutions, or none.
use Prim.Native.Nat.{◌+◌, ◌-◌, ◌<◌, ◌≤◌, suc, zero, ℕ}
use mathlib.Core.Bool.{Bool, false, true}
use mathlib.Core.List.{[], ◌++◌, ◌∷◌, append_assoc, reverse}
use mathlib.Core.Logic.{◌↔◌}
use mathlib.Core.Option.{Option, none, some}
use mathlib.Core.Path.{◌∙◌, ◌≡◌, ap, ap₂, refl, subst, sym}
use native.Mathlib.Omega.{arith}
use lib.Dec.{ltb}
use lib.ListN.{length, length-append}
use lib.Seq.{take_at}
use borrow.Author.Tests.{eqb-true}
use Rattle.rules.specs.Reading.{choose}
use Rattle.rules.specs.Syntax.{Term, atom, pair, var}
use Rattle.semantics.specs.Answer.{resolve_right, trial_bindings}
use Rattle.semantics.specs.Invariant.{Fits, Good, In, Open, Sat, TermIn}
use Rattle.semantics.specs.Logic.{Assignment, leaf, node, value}
use Rattle.semantics.specs.Steps.{Outcome, Stop, at_bound, done, most, stop, waiting}
use Rattle.semantics.specs.Substitution.{Substitution, resolve, same_atom, walk}
use Rattle.semantics.specs.Unify.{Goes, Looked, Pairs, agrees, bind, binds, fails, look, occurs_check, parts, unify, unify_bound, unify_next, unify_pair}
use Rattle.semantics.proofs.Basics.{by_choose, clash, compared, each_append, each_reverse, other, same}
use Rattle.semantics.proofs.OccursLaws.{occurs_alone, occurs_more, occurs_spent}
use Rattle.semantics.proofs.StepLaws.{More, Spent, more_bound, more_done, more_then, spent_then, spent_up}
use Rattle.semantics.proofs.SubstitutionLaws.{Followed, resolve_atom, resolve_open, resolve_pair, value_resolve, value_walk, walk_followed, walk_in}
use Rattle.semantics.proofs.TermLaws.{inside, inside_pair, not_inside, same_atom_false, same_atom_true}

-- the pairs of terms that are to be equal
abbrev pub Equal : Assignment → Pairs → Type 0
Equal α [] = Unit {0}
Equal α (w ∷ ws) = (value α w.0 ≡ value α w.1) × Equal α ws

abbrev pub PairsIn : ℕ → Pairs → Type 0
PairsIn top [] = Unit {0}
PairsIn top (w ∷ ws) = (TermIn top w.0 × TermIn top w.1) × PairsIn top ws

-- bindings and pairs lead to others that have the same solutions
pub record Leads (top : ℕ) (bs : Substitution) (ps : Pairs) (bs' : Substitution) (qs : Pairs) : Type 0 where
  pub new : Substitution
  pub grows : bs' ≡ new ++ bs
  pub alike : (α : Assignment) → (Sat α bs' × Equal α qs) ↔ (Sat α bs × Equal α ps)
  pub scope : In top bs → PairsIn top ps → In top bs' × PairsIn top qs

pub leads_trans : {top : ℕ} {bs : Substitution} {ps : Pairs} {bs₁ : Substitution} {qs : Pairs} {bs₂ : Substitution} {rs : Pairs} → Leads top bs ps bs₁ qs → Leads top bs₁ qs bs₂ rs → Leads top bs ps bs₂ rs
leads_trans {bs = bs} l m = record {
  new = m.new ++ l.new;
  grows = m.grows ∙ ap (λ x. m.new ++ x) l.grows ∙ sym (append_assoc m.new l.new bs);
  alike = λ α. (λ h. (l.alike α).0 ((m.alike α).0 h), λ h. (m.alike α).1 ((l.alike α).1 h));
  scope = λ i j. let k = l.scope i j in m.scope k.0 k.1;
}

pub leads_refl : {top : ℕ} {bs : Substitution} {ps : Pairs} → Leads top bs ps bs ps
leads_refl = record { new = []; grows = refl; alike = λ α. (λ h. h, λ h. h); scope = λ i j. (i, j) }

-- what unification comes to: bindings with the same solutions, or none
abbrev pub Unified : ℕ → Substitution → Pairs → Option Substitution → Type 0
Unified top bs ps none = (α : Assignment) → Sat α bs → Equal α ps → ⊥
Unified top bs ps (some bs') = Good bs' × Leads top bs ps bs' []

leads_unified : {top : ℕ} {bs : Substitution} {ps : Pairs} {bs₁ : Substitution} {qs : Pairs} (r : Option Substitution) → Leads top bs ps bs₁ qs → Unified top bs₁ qs r → Unified top bs ps r
leads_unified none l u = λ α h e. let k = (l.alike α).1 (h, e) in u α k.0 k.1
leads_unified (some bs') l u = (u.0, leads_trans l u.1)

-- x and u differ at the head
abbrev pub Apart : ℕ → Term → Type 0
Apart x (var y) = ¬ (x ≡ y)
Apart x (atom a) = Unit {0}
Apart x (pair s t) = Unit {0}

-- what looking at two followed terms tells
pub record Binds (top : ℕ) (bs : Substitution) (f g : Term) (x : ℕ) (u : Term) : Type 0 where
  pub opens : Open bs x
  pub followed : Followed bs u
  pub distinct : Apart x u
  pub alike : (α : Assignment) → (α x ≡ value α u) ↔ (value α f ≡ value α g)
  pub scope : TermIn top f → TermIn top g → (x < top) × TermIn top u

abbrev pub LookRight : ℕ → Substitution → Term → Term → Looked → Type 0
LookRight top bs f g fails = (α : Assignment) → ¬ (value α f ≡ value α g)
LookRight top bs f g agrees = (α : Assignment) → value α f ≡ value α g
LookRight top bs f g (binds x u) = Binds top bs f g x u
LookRight top bs f g (parts a b c d) = (f ≡ pair a b) × (g ≡ pair c d)

left_binds : (top : ℕ) (bs : Substitution) (x : ℕ) (g : Term) → Open bs x → Followed bs g → Apart x g → Binds top bs (var x) g x g
left_binds top bs x g o f d = record { opens = o; followed = f; distinct = d; alike = λ α. (λ e. e, λ e. e); scope = λ i j. (i, j) }

right_binds : (top : ℕ) (bs : Substitution) (x : ℕ) (f : Term) → Open bs x → Followed bs f → Apart x f → Binds top bs f (var x) x f
right_binds top bs x f o k d = record { opens = o; followed = k; distinct = d; alike = λ α. (λ e. sym e, λ e. sym e); scope = λ i j. (j, i) }

pub look_ok : (top : ℕ) (bs : Substitution) (f g : Term) → Followed bs f → Followed bs g → LookRight top bs f g (look f g)
look_ok top bs (var x) (var y) h k = elim (compared x y) [
  | same p e ↦ rw e (λ α. ap α p)
  | other n e ↦ rw e (left_binds top bs x (var y) h k n)
]
look_ok top bs (var x) (atom b) h k = left_binds top bs x (atom b) h tt tt
look_ok top bs (var x) (pair s t) h k = left_binds top bs x (pair s t) h tt tt
look_ok top bs (atom a) (var y) h k = right_binds top bs y (atom a) k tt tt
look_ok top bs (atom a) (atom b) h k = go (same_atom a b) refl
  where
    go : (c : Bool) → same_atom a b ≡ c → LookRight top bs (atom a) (atom b) (look (atom a) (atom b))
    go true e = rw e (λ α. ap leaf (same_atom_true a b e))
    go false e = rw e (λ α q. same_atom_false a b e (cc))
look_ok top bs (atom a) (pair s t) h k = λ α q. clash (cc)
look_ok top bs (pair s t) (var y) h k = right_binds top bs y (pair s t) k tt tt
look_ok top bs (pair s t) (atom b) h k = λ α q. clash (cc)
look_ok top bs (pair s t) (pair u v) h k = (refl, refl)

-- a variable cannot be equal to a term that has it inside
inside_fails : (α : Assignment) (bs : Substitution) → Sat α bs → (x : ℕ) (u : Term) → Followed bs u → Apart x u → inside x (resolve bs u) ≡ true → ¬ (α x ≡ value α u)
inside_fails α bs h x (var y) f d i q = d (eqb-true x y (rw (resolve_open bs y f) at i))
inside_fails α bs h x (atom a) f d i q = clash (cc (resolve_atom bs a))
inside_fails α bs h x (pair s t) f d i q = inside_pair α x (resolve bs s) (resolve bs t) (rw (resolve_pair bs s t) at i) (q ∙ sym (value_resolve α bs h (pair s t)) ∙ ap (value α) (resolve_pair bs s t))

-- what `bind` comes to
abbrev pub Bound_to : Substitution → ℕ → Term → Option Substitution → Type 0
Bound_to bs x u none = (α : Assignment) → Sat α bs → ¬ (α x ≡ value α u)
Bound_to bs x u (some bs') = (bs' ≡ ((x, u) ∷ bs)) × Fits bs x u

pub bind_ok : (top : ℕ) (bs : Substitution) → Good bs → (f g : Term) (x : ℕ) (u : Term) → Binds top bs f g x u → (left : ℕ) (r : Option Substitution) (left' : ℕ) → bind bs x u left ≡ done r left' → Bound_to bs x u r
bind_ok top bs good f g x u b left r left' e = go (occurs_check x bs [] [] u left) refl
  where
    go : (o : Outcome Bool) → occurs_check x bs [] [] u left ≡ o → Bound_to bs x u r
    go (stop why l) q = clash (cc)
    go (done true l) q =
        let i = sym (occurs_alone x bs good u left true l q) in let d : ◌≡◌ {A = Outcome (Option Substitution)} (done none l) (done r left') = rw q at e in
        let n : none ≡ r = cc in subst (Bound_to bs x u) n (λ α h. inside_fails α bs h x u b.followed b.distinct i)
    go (done false l) q =
        let i = sym (occurs_alone x bs good u left false l q) in let d : ◌≡◌ {A = Outcome (Option Substitution)} (done (some ((x, u) ∷ bs)) l) (done r left') = rw q at e in
        let n : some ((x, u) ∷ bs) ≡ r = cc in subst (Bound_to bs x u) n (refl, record { opens = b.opens; acyclic = not_inside x (resolve bs u) i })

module _ (top : ℕ) (bs : Substitution) (s t : Term) (ws : Pairs) where
  found_equal : (α : Assignment) → Sat α bs → (value α (walk bs s) ≡ value α (walk bs t)) ↔ (value α s ≡ value α t)
  found_equal α h = (λ e. cc (value_walk α bs h s, value_walk α bs h t), λ e. cc (value_walk α bs h s, value_walk α bs h t))

  fails_unified : ((α : Assignment) → ¬ (value α (walk bs s) ≡ value α (walk bs t))) → Unified top bs ((s, t) ∷ ws) none
  fails_unified n α h e = n α ((found_equal α h).1 e.0)

  agrees_leads : ((α : Assignment) → value α (walk bs s) ≡ value α (walk bs t)) → Leads top bs ((s, t) ∷ ws) bs ws
  agrees_leads a = record {
    new = [];
    grows = refl;
    alike = λ α. (λ h. (h.0, ((found_equal α h.0).0 (a α), h.1)), λ h. (h.0, h.1.1));
    scope = λ i j. (i, j.1);
  }

  binds_leads : (x : ℕ) (u : Term) → Binds top bs (walk bs s) (walk bs t) x u → Leads top bs ((s, t) ∷ ws) ((x, u) ∷ bs) ws
  binds_leads x u b = record {
    new = (x, u) ∷ [];
    grows = refl;
    alike = λ α. (
      λ h. (h.0.1, ((found_equal α h.0.1).0 ((b.alike α).0 h.0.0), h.1)),
      λ h. (((b.alike α).1 ((found_equal α h.0).1 h.1.0), h.0), h.1.1),
    );
    scope = λ i j. ((b.scope (walk_in top bs i s j.0.0) (walk_in top bs i t j.0.1), i), j.1);
  }

  binds_unified : (x : ℕ) (u : Term) → Binds top bs (walk bs s) (walk bs t) x u → Bound_to bs x u none → Unified top bs ((s, t) ∷ ws) none
  binds_unified x u b n α h e = n α h ((b.alike α).1 ((found_equal α h).1 e.0))

  parts_leads : (a b c d : Term) → walk bs s ≡ pair a b → walk bs t ≡ pair c d → Leads top bs ((s, t) ∷ ws) bs ((a, c) ∷ (b, d) ∷ ws)
  parts_leads a b c d p q = record {
    new = [];
    grows = refl;
    alike = λ α. (
      λ h. (h.0, ((found_equal α h.0).0 (ap (value α) p ∙ ap₂ node h.1.0 h.1.1.0 ∙ sym (ap (value α) q)), h.1.1.1)),
      λ h. let e : node (value α a) (value α b) ≡ node (value α c) (value α d) = sym (ap (value α) p) ∙ (found_equal α h.0).1 h.1.0 ∙ ap (value α) q in
          (h.0, (cc, (cc, h.1.1))),
    );
    scope = λ i j. let f = subst (TermIn top) p (walk_in top bs i s j.0.0) in let g = subst (TermIn top) q (walk_in top bs i t j.0.1) in
        (i, ((f.0, g.0), ((f.1, g.1), j.1)));
  }

-- the next pair that waits, or the bindings as they are
abbrev pub unify_rest : ℕ → Substitution → Pairs → ℕ → Outcome (Option Substitution)
unify_rest fuel bs ws left = unify_next ws bs left (λ bs' vs u v l. unify fuel bs' vs u v l)

-- what one step of `unify` comes to, whatever the fuel
pub data UnifyStep (bs : Substitution) (ws : Pairs) (s t : Term) (left : ℕ) : Type 0 where
  fail : look (walk bs s) (walk bs t) ≡ fails → ((fuel : ℕ) → unify (suc fuel) bs ws s t (suc left) ≡ done none left) → UnifyStep bs ws s t left
  agree : look (walk bs s) (walk bs t) ≡ agrees → ((fuel : ℕ) → unify (suc fuel) bs ws s t (suc left) ≡ unify_rest fuel bs ws left) → UnifyStep bs ws s t left
  halt : (x : ℕ) (u : Term) (why : Stop) (l : ℕ) → look (walk bs s) (walk bs t) ≡ binds x u → bind bs x u left ≡ stop why l → ((fuel : ℕ) → unify (suc fuel) bs ws s t (suc left) ≡ stop why l) → UnifyStep bs ws s t left
  occurs : (x : ℕ) (u : Term) (l : ℕ) → look (walk bs s) (walk bs t) ≡ binds x u → bind bs x u left ≡ done none l → ((fuel : ℕ) → unify (suc fuel) bs ws s t (suc left) ≡ done none l) → UnifyStep bs ws s t left
  extend : (x : ℕ) (u : Term) (bs' : Substitution) (l : ℕ) → look (walk bs s) (walk bs t) ≡ binds x u → bind bs x u left ≡ done (some bs') l → ((fuel : ℕ) → unify (suc fuel) bs ws s t (suc left) ≡ unify_rest fuel bs' ws l) → UnifyStep bs ws s t left
  split : (a b c d : Term) → look (walk bs s) (walk bs t) ≡ parts a b c d → ltb (length ws) (most waiting) ≡ true → ((fuel : ℕ) → unify (suc fuel) bs ws s t (suc left) ≡ unify fuel bs ((b, d) ∷ ws) a c left) → UnifyStep bs ws s t left
  jammed : (a b c d : Term) → look (walk bs s) (walk bs t) ≡ parts a b c d → ltb (length ws) (most waiting) ≡ false → ((fuel : ℕ) → unify (suc fuel) bs ws s t (suc left) ≡ stop (at_bound waiting) (suc left)) → UnifyStep bs ws s t left

pub unify_step : (bs : Substitution) (ws : Pairs) (s t : Term) (left : ℕ) → UnifyStep bs ws s t left
unify_step bs ws s t left = go (look (walk bs s) (walk bs t)) refl
  where
    binding : (x : ℕ) (u : Term) → look (walk bs s) (walk bs t) ≡ binds x u → (o : Outcome (Option Substitution)) → bind bs x u left ≡ o → UnifyStep bs ws s t left
    binding x u q (stop why l) p = halt x u why l q p (λ fuel. rw (q, p))
    binding x u q (done none l) p = occurs x u l q p (λ fuel. rw (q, p))
    binding x u q (done (some bs') l) p = extend x u bs' l q p (λ fuel. rw (q, p))

    splitting : (a b c d : Term) → look (walk bs s) (walk bs t) ≡ parts a b c d → (l : Bool) → ltb (length ws) (most waiting) ≡ l → UnifyStep bs ws s t left
    splitting a b c d q true p = split a b c d q p (λ fuel. rw (q, p))
    splitting a b c d q false p = jammed a b c d q p (λ fuel. rw (q, p))

    go : (l : Looked) → look (walk bs s) (walk bs t) ≡ l → UnifyStep bs ws s t left
    go fails q = fail q (λ fuel. rw q)
    go agrees q = agree q (λ fuel. rw q)
    go (binds x u) q = binding x u q (bind bs x u left) refl
    go (parts a b c d) q = splitting a b c d q (ltb (length ws) (most waiting)) refl

pub bind_spent : (bs : Substitution) (x : ℕ) (u : Term) (left : ℕ) → Spent left left (bind bs x u left)
bind_spent bs x u left = spent_then left left (occurs_check x bs [] [] u left) _ (occurs_spent x bs left [] [] u) (λ found l h. by_choose (Spent left left) found _ _ (λ _. h) (λ _. h))

abbrev Spends : ℕ → Type 0
Spends fuel = (bs : Substitution) (ws : Pairs) (s t : Term) (left : ℕ) → Spent left left (unify fuel bs ws s t left)

rest_spent : (fuel : ℕ) → Spends fuel → (bs : Substitution) (ws : Pairs) (l m : ℕ) → l ≤ m → Spent m m (unify_rest fuel bs ws l)
rest_spent fuel ih bs [] l m h = h
rest_spent fuel ih bs (w ∷ vs) l m h = spent_up l l m m (unify fuel bs vs w.0 w.1 l) h h (ih bs vs w.0 w.1 l)

pub unify_spent : (fuel : ℕ) → Spends fuel
unify_spent zero bs ws s t left = refl
unify_spent (suc fuel) bs ws s t zero = refl
unify_spent (suc fuel) bs ws s t (suc left) = go (unify_step bs ws s t left) (unify_spent fuel)
  where
    go : UnifyStep bs ws s t left → Spends fuel → Spent (suc left) (suc left) (unify (suc fuel) bs ws s t (suc left))
    go (fail q e) ih = rw (e fuel) (omega arith)
    go (agree q e) ih = rw (e fuel) (rest_spent fuel ih bs ws left (suc left) (omega arith))
    go (halt x u why l q p e) ih = rw (e fuel) (spent_up {A = Option Substitution} left left (suc left) (suc left) (stop why l) (omega arith) (omega arith) (rw p at (bind_spent bs x u left)))
    go (occurs x u l q p e) ih = let h = rw p at (bind_spent bs x u left) in rw (e fuel) (omega arith)
    go (extend x u bs' l q p e) ih = let h = rw p at (bind_spent bs x u left) in rw (e fuel) (rest_spent fuel ih bs' ws l (suc left) (omega arith))
    go (split a b c d q p e) ih = rw (e fuel) (spent_up left left (suc left) (suc left) (unify fuel bs ((b, d) ∷ ws) a c left) (omega arith) (omega arith) (ih bs ((b, d) ∷ ws) a c left))
    go (jammed a b c d q p e) ih = rw (e fuel) (omega arith)

-- fuel that is at least the steps left makes no difference
abbrev Fuels : ℕ → ℕ → Type 0
Fuels m n = (bs : Substitution) (ws : Pairs) (s t : Term) (left : ℕ) → left ≤ m → left ≤ n → unify m bs ws s t left ≡ unify n bs ws s t left

rest_fuel : (m n : ℕ) → Fuels m n → (bs : Substitution) (ws : Pairs) (l : ℕ) → l ≤ m → l ≤ n → unify_rest m bs ws l ≡ unify_rest n bs ws l
rest_fuel m n ih bs [] l h k = refl
rest_fuel m n ih bs (w ∷ vs) l h k = ih bs vs w.0 w.1 l h k

pub unify_fuel : (m n : ℕ) → Fuels m n
unify_fuel zero zero bs ws s t left h k = refl
unify_fuel zero (suc n) bs ws s t zero h k = refl
unify_fuel zero (suc n) bs ws s t (suc left) h k = absurd (omega arith)
unify_fuel (suc m) zero bs ws s t zero h k = refl
unify_fuel (suc m) zero bs ws s t (suc left) h k = absurd (omega arith)
unify_fuel (suc m) (suc n) bs ws s t zero h k = refl
unify_fuel (suc m) (suc n) bs ws s t (suc left) h k = go (unify_step bs ws s t left) (unify_fuel m n)
  where
    go : UnifyStep bs ws s t left → Fuels m n → unify (suc m) bs ws s t (suc left) ≡ unify (suc n) bs ws s t (suc left)
    go (fail q e) ih = e m ∙ sym (e n)
    go (agree q e) ih = e m ∙ rest_fuel m n ih bs ws left (omega arith) (omega arith) ∙ sym (e n)
    go (halt x u why l q p e) ih = e m ∙ sym (e n)
    go (occurs x u l q p e) ih = e m ∙ sym (e n)
    go (extend x u bs' l q p e) ih = let i = rw p at (bind_spent bs x u left) in e m ∙ rest_fuel m n ih bs' ws l (omega arith) (omega arith) ∙ sym (e n)
    go (split a b c d q p e) ih = e m ∙ ih bs ((b, d) ∷ ws) a c left (omega arith) (omega arith) ∙ sym (e n)
    go (jammed a b c d q p e) ih = e m ∙ sym (e n)

-- with more steps, and fuel for them
next_more : (d left : ℕ) (ws : Pairs) (bs : Substitution) (l l' : ℕ) (go go' : Goes) → l ≤ left → l' ≡ l + d →
    ((bs : Substitution) (ws : Pairs) (u v : Term) (l l' : ℕ) → l ≤ left → l' ≡ l + d → More d (go bs ws u v l) (go' bs ws u v l')) → More d (unify_next ws bs l go) (unify_next ws bs l' go')
next_more d left [] bs l l' go go' i e f = more_done d (some bs) l l' e
next_more d left (w ∷ ws) bs l l' go go' i e f = f bs ws w.0 w.1 l l' i e

pair_more : (d : ℕ) (k : Looked) (bs : Substitution) (ws : Pairs) (left left' : ℕ) (go go' : Goes) → left' ≡ left + d →
    ((bs : Substitution) (ws : Pairs) (u v : Term) (l l' : ℕ) → l ≤ left → l' ≡ l + d → More d (go bs ws u v l) (go' bs ws u v l')) → More d (unify_pair k bs ws left go) (unify_pair k bs ws left' go')
pair_more d fails bs ws left left' go go' e f = more_done d none left left' e
pair_more d agrees bs ws left left' go go' e f = next_more d left ws bs left left' go go' (omega arith) e f
pair_more d (binds x u) bs ws left left' go go' e f =
    more_then d (bind bs x u left) (bind bs x u left') _ _ (more_then d (occurs_check x bs [] [] u left) (occurs_check x bs [] [] u left') _ _ (occurs_more d x bs left left' [] [] u e) found) on
  where
    found : (b : Bool) (l : ℕ) → occurs_check x bs [] [] u left ≡ done b l → (l' : ℕ) → l' ≡ l + d →
        More d (choose b (λ _. done none l) (λ _. done (some ((x, u) ∷ bs)) l)) (choose b (λ _. done none l') (λ _. done (some ((x, u) ∷ bs)) l'))
    found true l q l' i = more_done d none l l' i
    found false l q l' i = more_done d (some ((x, u) ∷ bs)) l l' i

    on : (r : Option Substitution) (l : ℕ) → bind bs x u left ≡ done r l → (l' : ℕ) → l' ≡ l + d → More d (unify_bound r ws l go) (unify_bound r ws l' go')
    on none l q l' i = more_done d none l l' i
    on (some bs') l q l' i = next_more d left ws bs' l l' go go' (rw q at (bind_spent bs x u left)) i f
pair_more d (parts a b c d') bs ws left left' go go' e f = room (ltb (length ws) 512)
  where
    room : (r : Bool) → More d (choose r (λ _. go bs ((b, d') ∷ ws) a c left) (λ _. stop (at_bound waiting) (suc left))) (choose r (λ _. go' bs ((b, d') ∷ ws) a c left') (λ _. stop (at_bound waiting) (suc left')))
    room true = f bs ((b, d') ∷ ws) a c left left' (omega arith) e
    room false = more_bound d waiting (suc left) (suc left') (omega arith)

pub unify_more : (d fuel fuel' : ℕ) (bs : Substitution) (ws : Pairs) (s t : Term) (left left' : ℕ) → left' ≤ fuel' → left' ≡ left + d → More d (unify fuel bs ws s t left) (unify fuel' bs ws s t left')
unify_more d zero fuel' bs ws s t left left' h e = tt
unify_more d (suc fuel) fuel' bs ws s t zero left' h e = tt
unify_more d (suc fuel) fuel' bs ws s t (suc left) zero h e = absurd (omega arith)
unify_more d (suc fuel) zero bs ws s t (suc left) (suc left') h e = absurd (omega arith)
unify_more d (suc fuel) (suc fuel') bs ws s t (suc left) (suc left') h e =
    pair_more d (look (walk bs s) (walk bs t)) bs ws left left' _ _ (omega arith) (λ cs vs u v l l' i q. unify_more d fuel fuel' cs vs u v l l' (omega arith) q)

module _ (top : ℕ) where
  abbrev Unifies : ℕ → Type 0
  Unifies fuel = (bs : Substitution) → Good bs → (ws : Pairs) (s t : Term) (left : ℕ) (r : Option Substitution) (left' : ℕ) → unify fuel bs ws s t left ≡ done r left' → Unified top bs ((s, t) ∷ ws) r

  ends : (bs : Substitution) (ps : Pairs) (o r : Option Substitution) (l left' : ℕ) → Unified top bs ps o → ◌≡◌ {A = Outcome (Option Substitution)} (done o l) (done r left') → Unified top bs ps r
  ends bs ps o r l left' u e = let n : o ≡ r = cc in rw n at u

  rest_ok : (fuel : ℕ) → Unifies fuel → (bs : Substitution) → Good bs → (ws : Pairs) (l : ℕ) (r : Option Substitution) (left' : ℕ) → unify_rest fuel bs ws l ≡ done r left' → Unified top bs ws r
  rest_ok fuel ih bs g [] l r left' e = ends bs [] (some bs) r l left' (g, leads_refl) e
  rest_ok fuel ih bs g (w ∷ vs) l r left' e = ih bs g vs w.0 w.1 l r left' e

  pub unify_ok : (fuel : ℕ) → Unifies fuel
  unify_ok zero bs good ws s t left r left' e = clash (cc)
  unify_ok (suc fuel) bs good ws s t zero r left' e = clash (cc)
  unify_ok (suc fuel) bs good ws s t (suc left) r left' e = go (unify_step bs ws s t left) (look_ok top bs (walk bs s) (walk bs t) (walk_followed bs good s) (walk_followed bs good t)) (unify_ok fuel)
    where
      go : UnifyStep bs ws s t left → LookRight top bs (walk bs s) (walk bs t) (look (walk bs s) (walk bs t)) → Unifies fuel → Unified top bs ((s, t) ∷ ws) r
      go (fail q d) told ih = ends bs ((s, t) ∷ ws) none r left left' (fails_unified top bs s t ws (rw q at told)) (sym (d fuel) ∙ e)
      go (agree q d) told ih = leads_unified r (agrees_leads top bs s t ws (rw q at told)) (rest_ok fuel ih bs good ws left r left' (sym (d fuel) ∙ e))
      go (halt x u why l q p d) told ih = clash (cc (d fuel))
      go (occurs x u l q p d) told ih =
          let b : Binds top bs (walk bs s) (walk bs t) x u = rw q at told in
          ends bs ((s, t) ∷ ws) none r l left' (binds_unified top bs s t ws x u b (bind_ok top bs good (walk bs s) (walk bs t) x u b left none l p)) (sym (d fuel) ∙ e)
      go (extend x u bs' l q p d) told ih =
          let b : Binds top bs (walk bs s) (walk bs t) x u = rw q at told in
          let k = bind_ok top bs good (walk bs s) (walk bs t) x u b left (some bs') l p in
          leads_unified {ps = (s, t) ∷ ws} r (rw k.0 (binds_leads top bs s t ws x u b)) (rest_ok fuel ih bs' (rw k.0 (good, k.1)) ws l r left' (sym (d fuel) ∙ e))
      go (split a b c d q p i) told ih = let k = rw q at told in leads_unified r (parts_leads top bs s t ws a b c d k.0 k.1) (ih bs good ((b, d) ∷ ws) a c left r left' (sym (i fuel) ∙ e))
      go (jammed a b c d q p i) told ih = clash (cc (i fuel))

-- two terms with none waiting
pub record Unifier (top : ℕ) (bs : Substitution) (s t : Term) (bs' : Substitution) : Type 0 where
  pub good : Good bs'
  pub new : Substitution
  pub grows : bs' ≡ new ++ bs
  pub alike : (α : Assignment) → Sat α bs' ↔ (Sat α bs × (value α s ≡ value α t))
  pub scope : In top bs → TermIn top s → TermIn top t → In top bs'

pub unify_some : (top : ℕ) (fuel : ℕ) (bs : Substitution) → Good bs → (s t : Term) (left : ℕ) (bs' : Substitution) (left' : ℕ) → unify fuel bs [] s t left ≡ done (some bs') left' → Unifier top bs s t bs'
unify_some top fuel bs g s t left bs' left' e =
    let u = unify_ok top fuel bs g [] s t left (some bs') left' e in let l = u.1 in
    record {
      good = u.0;
      new = l.new;
      grows = l.grows;
      alike = λ α. (λ h. let k = (l.alike α).0 (h, tt) in (k.0, k.1.0), λ h. ((l.alike α).1 (h.0, (h.1, tt))).0);
      scope = λ i j k. (l.scope i ((j, k), tt)).0;
    }

pub unify_none : (fuel : ℕ) (bs : Substitution) → Good bs → (s t : Term) (left left' : ℕ) → unify fuel bs [] s t left ≡ done none left' → (α : Assignment) → Sat α bs → ¬ (value α s ≡ value α t)
unify_none fuel bs g s t left left' e α h q = unify_ok 0 fuel bs g [] s t left none left' e α h (q, tt)

-- a trial that binds nothing: the two terms are equal already
pub no_news : {top : ℕ} {bs : Substitution} {s t : Term} {bs' : Substitution} → Unifier top bs s t bs' → length bs' ≡ length bs → (α : Assignment) → Sat α bs → value α s ≡ value α t
no_news {bs = bs} {bs' = bs'} u e α h = ((u.alike α).0 (subst (Sat α) (sym (u.grows ∙ ap (λ z. z ++ bs) (nothing u.new (rw (length-append) at (sym (ap length u.grows) ∙ e))))) h)).1
  where
    nothing : (new : Substitution) → length new + length bs ≡ length bs → new ≡ []
    nothing [] q = refl
    nothing (b ∷ new) q = absurd (omega arith)

-- the bindings of a trial say what equates the two terms
pub trial_new : {top : ℕ} {bs : Substitution} {s t : Term} {bs' : Substitution} (u : Unifier top bs s t bs') → trial_bindings bs bs' ≡ reverse u.new
trial_new {bs = bs} u = rw u.grows (ap reverse (take_at u.new bs (length (u.new ++ bs) - length bs) (omega (arith, length-append u.new bs))))

sat_right : (α : Assignment) (bs : Substitution) → Sat α bs → (cs : Substitution) → Sat α (resolve_right bs cs) ↔ Sat α cs
sat_right α bs h [] = (λ k. tt, λ k. tt)
sat_right α bs h (a ∷ cs) = let i = sat_right α bs h cs in let v = value_resolve α bs h a.1 in (λ k. (k.0 ∙ v, i.0 k.1), λ k. (k.0 ∙ sym v, i.1 k.1))

pub trial_ok : {top : ℕ} {bs : Substitution} {s t : Term} {bs' : Substitution} → Unifier top bs s t bs' → (α : Assignment) → Sat α bs → Sat α (resolve_right bs (trial_bindings bs bs')) ↔ (value α s ≡ value α t)
trial_ok {bs = bs} u α h =
    let Q : ℕ × Term → Type 0 = λ b. α b.0 ≡ value α b.1 in
    let a = sat_right α bs h (reverse u.new) in let r = each_reverse Q u.new [] in let j = each_append Q u.new bs in
    rw (trial_new u) (
      λ k. ((u.alike α).0 (rw u.grows (j.1 ((r.0 (a.0 k)).0, h)))).1,
      λ e. a.1 (r.1 ((j.0 (rw u.grows at ((u.alike α).1 (h, e)))).0, tt)),
    )
