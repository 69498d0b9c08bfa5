-- Document 02, Note 4: what `walk` promises of a value whose only word is the last of a full-length program.
use Prim.Native.Nat.{ℕ, ◌+◌, ◌-◌, ◌<◌}
use mathlib.Core.Path.{◌≡◌, refl, sym, ap, subst, ◌∙◌}
use mathlib.Core.List.{List}
use native.Mathlib.Omega.{arith}
use lib.ListN.{length}
use Rattle.rules.specs.Settings.{most_words}
use Rattle.rules.specs.Syntax.{Atom, Term, var, atom}
use Rattle.semantics.specs.Substitution.{Substitution, walk}
use Rattle.semantics.proofs.SubstitutionLaws.{followed_follow, walk_some}
use Rattle.engine.specs.Layout.{most_variables, positions}
use Rattle.engine.specs.Reference.{at, AtomIs, refer, pos_of, base_of, Stands}
use Rattle.engine.specs.Walk.{Follows, WalkedTo}
use Rattle.engine.specs.declared.terms.walk.Walked.{Walked}
use Rattle.engine.proofs.ReferenceLaws.{pos_refer, term_one, atom_word_is}
use Rattle.engine.proofs.WalkLaws.{Binding, binding_at}

-- how `walk` comes to a reference v: it is given v, or the term that it is given is, or leads to, a variable whose word refers to v
pub data ComesTo (s : List ℕ) (bs : Substitution) (w : ℕ) (t : Term) (v : ℕ) : Type 0 where
  given : w ≡ v → ComesTo s bs w t v
  bound : (x : ℕ) → x < most_variables → walk bs t ≡ walk bs (var x) → at s x ≡ v + 1 → ComesTo s bs w t v

module _ {ws s : List ℕ} {bs : Substitution} {w : ℕ} {t : Term} {r : Walked} (f : Follows ws s bs w t) (found : WalkedTo ws s w r) where
  stands_there : (v : ℕ) → ComesTo s bs w t v → (u : Term) × Stands ws v u × (walk bs t ≡ walk bs u)
  stands_there v (given e) = (t, subst (λ y. Stands ws y t) e f.stands, refl)
  stands_there v (bound x lt leads e) =
      let b : Binding ws s bs x = binding_at x f.binds.bindings_in lt (λ z. omega (arith, z, e)) in
      let d : at s x - 1 ≡ v = omega arith in
      (b.term, subst (λ y. Stands ws y b.term) d b.stands, leads ∙ walk_some bs f.binds.good x b.term b.is)

  -- If an atom's word is there, `walk` gives that word, whatever its position and the base of its environment.
  pub word_found : (pos base : ℕ) (a : Atom) → pos < positions → ComesTo s bs w t (refer pos base) → AtomIs (at ws pos) a → r.bits ≡ at ws pos
  word_found pos base a low comes is =
      let v : ℕ = refer pos base in
      let (u, n, leads) = stands_there v comes in
      let here : AtomIs (at ws (pos_of v)) a = subst (λ y. AtomIs (at ws y) a) (sym (pos_refer pos base low)) is in
      let same : u ≡ atom a = (term_one ws (base_of v) (pos_of v) u (atom a) n.to (pos_of v + 1) n.reads (here, refl)).0 in
      let to : walk bs t ≡ atom a = leads ∙ ap (walk bs) same ∙ followed_follow (length bs) bs (atom a) tt in
      let there : Stands ws r.at (atom a) = subst (Stands ws r.at) to (found.stands bs t f) in
      let c : AtomIs r.bits a = subst (λ y. AtomIs y a) (sym found.node.is_bits) there.reads.0 in
      atom_word_is r.bits a c ∙ sym (atom_word_is (at ws pos) a is)

  -- "a value whose only word is the last of a full-length program is still found"
  pub last_word_found : (base : ℕ) (a : Atom) → length ws ≡ most_words → ComesTo s bs w t (refer (length ws - 1) base) → AtomIs (at ws (length ws - 1)) a → r.bits ≡ at ws (length ws - 1)
  last_word_found base a full comes is = word_found (length ws - 1) base a (omega arith) comes is
