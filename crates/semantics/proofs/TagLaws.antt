-- Tags (document 02, Note 3): "a tag matches only its own kind", in a review, in the logic and in what an answer shows.
use Prim.Native.Nat.{ℕ, suc, zero}
use mathlib.Core.Bool.{Bool, false, true}
use mathlib.Core.List.{List, [], ◌∷◌, map}
use mathlib.Core.Logic.{◌↔◌}
use mathlib.Core.Path.{◌∙◌, ◌≡◌, refl, subst}
use native.Mathlib.Omega.{arith}
use Rattle.word.specs.Word.{word}
use Rattle.rules.specs.Lists.{Each}
use Rattle.rules.specs.Reading.{found}
use Rattle.rules.specs.Syntax.{Atom, Constraint, Sort, Term, absento, atom, constrain, pair, var}
use Rattle.rules.specs.WellFormed.{TagGood, TermGood}
use Rattle.rules.specs.Written.{atom_word, goal_words, term_words, terms_words}
use Rattle.semantics.specs.Answer.{lacks}
use Rattle.semantics.specs.Invariant.{Good, some_node}
use Rattle.semantics.specs.Logic.{Assignment, Holds, Lacks, OfSort, Proper, Tree, leaf, node, value}
use Rattle.semantics.specs.Review.{review}
use Rattle.semantics.specs.Shows.{Shows, read_answer}
use Rattle.semantics.specs.Steps.{done}
use Rattle.semantics.specs.Substitution.{Substitution, resolve}
use Rattle.semantics.specs.Unify.{is_atom}
use Rattle.semantics.proofs.Answered.{same_read}
use Rattle.semantics.proofs.Basics.{clash}
use Rattle.semantics.proofs.Listed.{goal_met}
use Rattle.semantics.proofs.ReadBack.{answer_back}
use Rattle.semantics.proofs.ScanLaws.{is_atom_heads, scan_alone}
use Rattle.semantics.proofs.TermLaws.{other_atom, same_atom_refl, same_atom_true}

-- an atom is the tag exactly if it has its kind and its payload
pub tag_matches : (a b : Atom) → (is_atom a (atom b) ≡ true) ↔ (a ≡ b)
tag_matches a b = (same_atom_true a b, λ e. subst (λ c. is_atom a (atom c) ≡ true) e (same_atom_refl a))

-- no atom of a term, and none of a tree, is of this sort
abbrev pub NoneOf : Sort → Term → Type 0
NoneOf k (var x) = Unit {0}
NoneOf k (atom b) = ¬ OfSort k (leaf b)
NoneOf k (pair s t) = NoneOf k s × NoneOf k t

abbrev pub NoneOfTree : Sort → Tree → Type 0
NoneOfTree k (leaf b) = ¬ OfSort k (leaf b)
NoneOfTree k (node s t) = NoneOfTree k s × NoneOfTree k t

-- a tag of this sort
module _ (k : Sort) (a : Atom) (own : OfSort k (leaf a)) where
  apart : (b : Atom) → ¬ OfSort k (leaf b) → ¬ (a ≡ b)
  apart b h e = h (subst (λ c. OfSort k (leaf c)) e own)

  not_among : (t : Term) → NoneOf k t → some_node (is_atom a) t ≡ false
  not_among (var x) h = refl
  not_among (atom b) h = other_atom a b (apart b h)
  not_among (pair s t) h = rw (not_among s h.0, not_among t h.1)

  -- a review does not fail on such a term, whatever the payloads in it
  pub other_kind_passes : (bs : Substitution) → Good bs → (cs : List Constraint) (t : Term) → NoneOf k (resolve bs t)
      → (left l : ℕ) (b : Bool) → review bs cs (absento a t) left ≡ done b l → b ≡ false
  other_kind_passes bs good cs t h zero l b e = clash (cc)
  other_kind_passes bs good cs t h (suc left) l b e = scan_alone (is_atom a) (is_atom_heads a) bs good t left b l e ∙ not_among (resolve bs t) h

  -- and in the logic such a tree lacks the tag
  pub other_kind_lacks : (v : Tree) → NoneOfTree k v → Lacks a v
  other_kind_lacks (leaf b) h = apart b h
  other_kind_lacks (node s t) h = (other_kind_lacks s h.0, other_kind_lacks t h.1)

-- an answer that lists the absence of a tag in its one query term: `15:4 0:0 9:2 tag 0:0`
abbrev pub absence : Atom → List ℕ
absence a = word 15 4 ∷ word 0 0 ∷ word 9 2 ∷ atom_word a ∷ word 0 0 ∷ []

module _ (a : Atom) (good : TagGood a) where
  absence_read : read_answer 1 (absence a) ≡ found (var 0 ∷ [], constrain (absento a (var 0)) ∷ []) 5
  unfolding term_words terms_words goal_words TermGood
  absence_read = answer_back (0 ∷ []) (var 0 ∷ []) (lacks a 0 ∷ []) 1 refl (omega arith, tt) ((good, omega arith), tt) (omega arith)

  -- it shows the trees without the tag, and no others
  pub absence_shows : (v : Tree) → Shows 1 (absence a) (v ∷ []) ↔ (Proper v × Lacks a v)
  absence_shows v = (down, up)
    where
      down : Shows 1 (absence a) (v ∷ []) → Proper v × Lacks a v
      down s =
          let ρ : Assignment = s.assignment in
          let (p, q) = same_read s.reads absence_read in
          let t : map (value ρ) (var 0 ∷ []) ≡ v ∷ [] = subst (λ ts. map (value ρ) ts ≡ v ∷ []) p s.is_tuple in
          let e : ρ 0 ≡ v = cc in
          let h : Each (λ g. Holds [] ρ g 0) (constrain (absento a (var 0)) ∷ []) = subst (Each (λ g. Holds [] ρ g 0)) q s.holds in
          (subst Proper e (s.proper 0), subst (Lacks a) e ((goal_met [] ρ (lacks a 0)).0 h.0))

      up : Proper v × Lacks a v → Shows 1 (absence a) (v ∷ [])
      up h = record {
        terms = var 0 ∷ [];
        goals = constrain (absento a (var 0)) ∷ [];
        reads = absence_read;
        assignment = λ x. v;
        proper = λ x. h.0;
        is_tuple = refl;
        holds = ((goal_met [] (λ x. v) (lacks a 0)).1 h.1, tt);
      }
