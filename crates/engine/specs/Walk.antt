-- What `part_at`, `walk` and `follow` promise.
use Rattle.std.specs.Prelude.{ℕ, ◌≤◌, ◌<◌, ◌≡◌, List, length, Option, Some, None}
use Rattle.std.proofs.Math.Option.{Option as MathOption, none, some}
use Rattle.word.specs.Kind.{kind_number}
use Rattle.rules.specs.Reading.{kind_at, payload_at}
use Rattle.rules.specs.Syntax.{Term, Atom, var, atom, pair}
use Rattle.semantics.specs.Substitution.{Substitution, walk, resolve}
use Rattle.semantics.specs.Unify.{way_end}
use Rattle.semantics.specs.Invariant.{Good}
use Rattle.engine.specs.Layout.{most_variables}
use Rattle.engine.specs.Reference.{at, pos_of, Stands}
use Rattle.engine.specs.Memory.{BindingsIn}
use Rattle.engine.specs.declared.terms.walk.Walked.{Walked}
use Rattle.rules.specs.Written.{atom_word}
use Rattle.rules.specs.Settings.{most_words, scratch_words}
use Rattle.engine.specs.declared.terms.walk.Shape.{Shape}
use Rattle.engine.specs.declared.terms.walk.Shape.TheVariants.{Open, Atom as Leaf, Pair}

-- the part at a reference: its first word, with kind and payload
pub record PartRead (ws : List ℕ) (w bits k p : ℕ) : Type 0 where
  pub is_bits : bits ≡ at ws (pos_of w)
  pub is_kind : k ≡ kind_at ws (pos_of w)
  pub is_payload : p ≡ payload_at ws (pos_of w)

-- a followed term has the word at its reference
abbrev pub IsNode : List ℕ → Walked → Type 0
IsNode ws n = PartRead ws n.at n.bits (kind_number n.kind) n.payload

-- the scratch holds a path's bindings, and they are acyclic
pub record Binds (ws s : List ℕ) (bs : Substitution) : Type 0 where
  pub short : length ws ≤ most_words
  pub long : scratch_words ≤ length s
  pub bindings_in : BindingsIn ws s bs
  pub good : Good bs

-- and a reference stands for a term
pub record Follows (ws s : List ℕ) (bs : Substitution) (w : ℕ) (t : Term) : Type 0 where
  pub binds : Binds ws s bs
  pub stands : Stands ws w t

-- the last variable on a way, as the code has it
abbrev pub through_of : MathOption ℕ → Option ℕ
through_of none = None
through_of (some x) = Some x

-- what `walk` gives: the word at a reference, which stands for the term that the definition walks to; and of a way to a pair the last variable
pub record WalkedTo (ws s : List ℕ) (w : ℕ) (r : Walked) : Type 0 where
  pub node : IsNode ws r
  pub stands : (bs : Substitution) (t : Term) → Follows ws s bs w t → Stands ws r.at (walk bs t)
  pub led : (bs : Substitution) (t : Term) → Follows ws s bs w t → (a b : Term) → walk bs t ≡ pair a b → r.through ≡ through_of (way_end bs t)

-- the reference, with bindings followed, is the term
pub record Resolves (ws s : List ℕ) (w : ℕ) (r : Term) : Type 0 where
  pub bindings : Substitution
  pub term : Term
  pub follows : Follows ws s bindings w term
  pub is : resolve bindings term ≡ r

-- what each case says
unfoldable pub Shaped : List ℕ → List ℕ → Shape → Term → Type 0
Shaped ws s (Open x) r = (r ≡ var x) × (x < most_variables)
Shaped ws s (Leaf v) r = (a : Atom) × (r ≡ atom a) × (v ≡ atom_word a)
Shaped ws s (Pair f g) r = (a : Term) × (b : Term) × (r ≡ pair a b) × Resolves ws s f a × Resolves ws s g b
