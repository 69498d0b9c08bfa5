-- For the whole answer: a variable that stands in a term again adds no line; a trial's equations; query terms, which have no reference of their own.
use Prim.Native.Nat.{ℕ, zero, suc, ◌+◌, ◌-◌, ◌<◌}
use mathlib.Core.Path.{◌≡◌, refl, sym, ap, subst, ◌∙◌}
use mathlib.Core.Bool.{Bool, true, false, ◌&&◌, ◌||◌, not, false≢true}
use mathlib.Core.Option.{Option, none, some}
use mathlib.Core.Logic.{◌⊎◌, inl, inr}
use mathlib.Core.List.{List, [], ◌∷◌, ◌++◌, reverse}
use native.Mathlib.Omega.{arith}
use lib.Dec.{eqb}
use lib.ListN.{length, take, length-append}
use lib.Seq.{take-append_seam}
use borrow.Author.Tests.{eqb-true}
use Rattle.std.specs.Prelude.{Option as RustOption, Result, Ok, Err}
use Rattle.rules.specs.Reading.{choose}
use Rattle.rules.specs.Syntax.{Atom, Term, var, atom, pair}
use Rattle.rules.specs.Written.{term_words}
use Rattle.semantics.specs.Substitution.{Substitution, lookup, resolve}
use Rattle.semantics.specs.Steps.{done}
use Rattle.semantics.specs.Unify.{scan, scan_node, never, member}
use Rattle.semantics.specs.Answer.{index, appear, reify, vars_in, Line, lacks, line_in, line_words, any_same, same_words, lacks_each, stays, trial_bindings, resolve_right}
use Rattle.semantics.specs.Invariant.{Good}
use Rattle.semantics.proofs.Basics.{one_of}
use Rattle.semantics.proofs.SubstitutionLaws.{walk_some, walk_open, resolve_lookup, resolve_open}
use Rattle.engine.specs.Reference.{at}
use Rattle.engine.specs.Memory.{Entry, BindingsIn}
use Rattle.engine.specs.Walk.{Binds, Follows, Resolves}
use Rattle.engine.specs.Names.{Named}
use Rattle.engine.specs.Term.{Puts, Placed}
use Rattle.engine.specs.Look.{LookedThroughAs}
use Rattle.engine.specs.Steps.{no_steps}
use Rattle.engine.specs.declared.steps.Stopped.{Stopped}
use Rattle.engine.specs.Line.{Equations}
use Rattle.engine.specs.Trial.{EquationsKept}
use Rattle.engine.specs.Lines.{add_line, add_lines, occurrences}
use Rattle.engine.proofs.WalkLaws.{Binding, binding_at}
use Rattle.semantics.proofs.Repeats.{same_refl}
use Rattle.engine.proofs.AddLineLaws.{any_snoc}
use Rattle.engine.proofs.LinesLaws.{lacks_append, add_append}

-- a line that would not be added
abbrev Settled : List ℕ → List (List ℕ) → Line → Type 0
Settled names ws l = stays names ws l ≡ false

settled_adds : (names : List ℕ) (ws : List (List ℕ)) (l : Line) → Settled names ws l → add_line names ws l ≡ ws
unfolding add_line
settled_adds names ws l e = rw e

never_new : (a b : Bool) → b ≡ true → (a && not b) ≡ false
never_new true b e = rw e
never_new false b e = refl

settled_added : (names : List ℕ) (ws : List (List ℕ)) (l : Line) → Settled names (add_line names ws l) l
unfolding add_line
settled_added names ws l = go (stays names ws l) refl
  where
    v : List ℕ
    v = line_words names l

    go : (b : Bool) → stays names ws l ≡ b → Settled names (choose b (λ _. ws ++ (v ∷ [])) (λ _. ws)) l
    go false e = e
    go true e = never_new (line_in names l) (any_same v (ws ++ (v ∷ []))) (any_snoc v v ws ∙ ap (λ b. b || any_same v ws) (same_refl v))

more_false : (a b c : Bool) → (a && not b) ≡ false → (a && not (c || b)) ≡ false
more_false true true true e = refl
more_false true true false e = refl
more_false true false c e = absurd (false≢true (sym e))
more_false false b c e = refl

settled_kept : (names : List ℕ) (ws : List (List ℕ)) (l m : Line) → Settled names ws l → Settled names (add_line names ws m) l
unfolding add_line
settled_kept names ws l m h = go (stays names ws m)
  where
    go : (b : Bool) → Settled names (choose b (λ _. ws ++ (line_words names m ∷ [])) (λ _. ws)) l
    go false = h
    go true = ap (λ b. line_in names l && not b) (any_snoc (line_words names l) (line_words names m) ws) ∙ more_false (line_in names l) (any_same (line_words names l) ws) (same_words (line_words names l) (line_words names m)) h

settled_all : (names : List ℕ) (ws : List (List ℕ)) (l : Line) (ls : List Line) → Settled names ws l → Settled names (add_lines names ws ls) l
unfolding add_lines
settled_all names ws l [] h = h
settled_all names ws l (m ∷ ls) h = settled_all names (add_line names ws m) l ls (settled_kept names ws l m h)

settled_seen : (names : List ℕ) (a : Atom) (x : ℕ) (ws : List (List ℕ)) (seen : List ℕ) → member x seen ≡ true → Settled names (add_lines names ws (lacks_each a seen)) (lacks a x)
unfolding add_lines
settled_seen names a x ws [] e = absurd (false≢true e)
settled_seen names a x ws (y ∷ ys) e = go (one_of (eqb x y) (member x ys) e) (settled_seen names a x (add_line names ws (lacks a y)) ys)
  where
    go : (eqb x y ≡ true) ⊎ (member x ys ≡ true) → (member x ys ≡ true → Settled names (add_lines names (add_line names ws (lacks a y)) (lacks_each a ys)) (lacks a x)) → Settled names (add_lines names (add_line names ws (lacks a y)) (lacks_each a ys)) (lacks a x)
    go (inl q) ih = settled_all names (add_line names ws (lacks a y)) (lacks a x) (lacks_each a ys) (subst (λ z. Settled names (add_line names ws (lacks a z)) (lacks a x)) (eqb-true x y q) (settled_added names ws (lacks a x)))
    go (inr q) ih = ih q

occurs_again : (names : List ℕ) (a : Atom) (ws : List (List ℕ)) (t : Term) (seen : List ℕ)
    → add_lines names (add_lines names ws (lacks_each a seen)) (lacks_each a (occurrences t)) ≡ add_lines names ws (lacks_each a (appear seen t))
unfolding add_lines occurrences
occurs_again names a ws (var x) seen = go (member x seen) refl
  where
    go : (b : Bool) → member x seen ≡ b → add_line names (add_lines names ws (lacks_each a seen)) (lacks a x) ≡ add_lines names ws (lacks_each a (choose b (λ _. seen) (λ _. seen ++ (x ∷ []))))
    go true e = settled_adds names (add_lines names ws (lacks_each a seen)) (lacks a x) (settled_seen names a x ws seen e)
    go false e = sym (ap (add_lines names ws) (lacks_append a seen (x ∷ [])) ∙ add_append names ws (lacks_each a seen) (lacks a x ∷ []))
occurs_again names a ws (atom b) seen = refl
occurs_again names a ws (pair s t) seen =
    ap (add_lines names (add_lines names ws (lacks_each a seen))) (lacks_append a (occurrences s) (occurrences t))
    ∙ add_append names (add_lines names ws (lacks_each a seen)) (lacks_each a (occurrences s)) (lacks_each a (occurrences t))
    ∙ ap (λ z. add_lines names z (lacks_each a (occurrences t))) (occurs_again names a ws s seen)
    ∙ occurs_again names a ws t (appear seen s)

-- what `add_absent` adds is what the definition lists of an absence
pub absent_once : (names : List ℕ) (a : Atom) (ws : List (List ℕ)) (t : Term) → add_lines names ws (lacks_each a (occurrences t)) ≡ add_lines names ws (lacks_each a (appear [] t))
unfolding add_lines
absent_once names a ws t = occurs_again names a ws t []

-- a trial's equations, as the definition has them
pub trial_new : (new bs : Substitution) → trial_bindings bs (new ++ bs) ≡ reverse new
trial_new new bs =
    let n : length (new ++ bs) ≡ length new + length bs = length-append new bs in
    let z : length (new ++ bs) - length bs ≡ length new = omega arith in
    ap (λ k. reverse (take k (new ++ bs))) z ∙ ap reverse (take-append_seam new bs)

pub equations_kept : {ws s : List ℕ} {bs : Substitution} (mark i : ℕ) (cs : List (ℕ × Term)) → Binds ws s bs → EquationsKept ws s mark i cs → Equations ws s mark i (resolve_right bs cs)
unfolding EquationsKept Equations
equations_kept mark i [] h k = tt
equations_kept {bs = bs} mark i (b ∷ cs) h k = (
  record { variable = k.0.variable; low = k.0.low; right = record { bindings = bs; term = b.1; follows = record { binds = h; stands = k.0.right }; is = refl } },
  equations_kept mark (i + 1) cs h k.1,
)

-- a query term: its variable is open, or it is what the variable is bound to
pub parameter_open : {ws s : List ℕ} {bs : Substitution} (x : ℕ) → BindingsIn ws s bs → x < 2048 → at s x ≡ 0 → lookup bs x ≡ none
parameter_open {ws} {s} {bs} x h l z = go (lookup bs x) (h.words x l)
  where
    go : (o : Option Term) → Entry ws (at s x) o → o ≡ none
    go none e = refl
    go (some t) e = absurd (omega (arith, e.some_word))

pub scan_bound : (test : Term → Bool) (bs : Substitution) → Good bs → (vs : List Term) (x : ℕ) (t : Term) (left : ℕ) → lookup bs x ≡ some t → scan test bs vs (var x) left ≡ scan test bs vs t left
scan_bound test bs good vs x t zero e = refl
scan_bound test bs good vs x t (suc left) e = ap (λ f. scan_node test f vs left (λ us u. scan test bs us u left)) (walk_some bs good x t e)

pub scan_open : (bs : Substitution) (x left : ℕ) → lookup bs x ≡ none → scan never bs [] (var x) (suc left) ≡ done false left
scan_open bs x left e = ap (λ f. scan_node never f [] left (λ us u. scan never bs us u left)) (walk_open bs x e)

pub resolves_bound : {ws s : List ℕ} {bs : Substitution} (x : ℕ) → Binds ws s bs → (h : Binding ws s bs x) → Resolves ws s (at s x - 1) (resolve bs (var x))
resolves_bound {bs = bs} x b h = record { bindings = bs; term = h.term; follows = record { binds = b; stands = h.stands }; is = sym (resolve_lookup bs b.good x h.term h.is) }

-- the functions over query terms, in the shape of their tests
module _ {ws s : List ℕ} {bs : Substitution} (x : ℕ) (b : Binds ws s bs) (low : x < 2048) where
  pub parameter_follows : (n : ¬ (at s x ≡ 0)) → Follows ws s bs (at s x - 1) (binding_at x b.bindings_in low n).term
  parameter_follows n = record { binds = b; stands = (binding_at x b.bindings_in low n).stands }

  pub parameter_resolves : ¬ (at s x ≡ 0) → Resolves ws s (at s x - 1) (resolve bs (var x))
  parameter_resolves n = resolves_bound x b (binding_at x b.bindings_in low n)

  parameter_itself : at s x ≡ 0 → resolve bs (var x) ≡ var x
  parameter_itself z = resolve_open bs x (parameter_open x b.bindings_in low z)

  pub parameter_named : {s' : List ℕ} {top : ℕ} (names : List ℕ) → at s x ≡ 0 → Named s s' top (appear names (var x)) → Named s s' top (appear names (resolve bs (var x)))
  parameter_named {s'} {top} names z h = subst (λ t. Named s s' top (appear names t)) (sym (parameter_itself z)) h

  pub parameter_puts : {o : List ℕ} {start end : ℕ} {names : List ℕ} → at s x ≡ 0 → Puts s o start end names (vars_in names (resolve bs (var x))) → Puts s o start end names (member x names)
  parameter_puts {o} {start} {end} {names} z g = subst (λ t. Puts s o start end names (vars_in names t)) (parameter_itself z) g

  pub parameter_put : {o o' : List ℕ} {start end : ℕ} {write : Bool} {r : RustOption ℕ} (names : List ℕ) → at s x ≡ 0 → Placed o o' start end write (term_words (var (index x names))) r → Placed o o' start end write (term_words (reify names (resolve bs (var x)))) r
  parameter_put {o} {o'} {start} {end} {write} {r} names z h = subst (λ t. Placed o o' start end write (term_words (reify names t)) r) (sym (parameter_itself z)) h

  pub parameter_no_steps : (steps : ℕ) → steps ≡ 0 → LookedThroughAs bs (var x) steps (Err no_steps)
  unfolding LookedThroughAs
  parameter_no_steps zero e = refl
  parameter_no_steps (suc n) e = absurd (omega arith)

  pub parameter_step : (steps : ℕ) → at s x ≡ 0 → ¬ (steps ≡ 0) → LookedThroughAs bs (var x) steps (Ok (steps - 1))
  unfolding LookedThroughAs
  parameter_step zero z n = absurd (n refl)
  parameter_step (suc m) z n = let k : suc m - 1 ≡ m = omega arith in scan_open bs x m (parameter_open x b.bindings_in low z) ∙ ap (λ l. done false l) (sym k)

  pub parameter_looked : (steps : ℕ) (r : Result ℕ Stopped) (n : ¬ (at s x ≡ 0)) → LookedThroughAs bs (binding_at x b.bindings_in low n).term steps r → LookedThroughAs bs (var x) steps r
  unfolding LookedThroughAs
  parameter_looked steps r n h = let p = binding_at x b.bindings_in low n in scan_bound never bs b.good [] x p.term steps p.is ∙ h
