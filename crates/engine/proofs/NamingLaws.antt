-- Naming the variables of a term, asking whether all have names, and taking names back: one law for each way in which the code returns or goes on.
use Prim.Native.Nat.{ℕ, ◌+◌, ◌%◌, ◌/◌, ◌-◌, ◌<◌, ◌≤◌}
use mathlib.Core.Path.{◌≡◌, sym, ap, subst, ◌∙◌}
use mathlib.Core.Bool.{Bool, true, false, ◌&&◌}
use mathlib.Core.List.{List, [], ◌∷◌, ◌++◌}
use native.Mathlib.Omega.{arith}
use lib.ListN.{length, set, length-set, length-append}
use lib.Seq.{get_or-set_same, get_or-set_other}
use Rattle.rules.specs.Syntax.{Term, var, pair}
use Rattle.rules.specs.Settings.{scratch_words}
use Rattle.semantics.specs.Answer.{appear, vars_in}
use Rattle.semantics.specs.Unify.{member}
use Rattle.semantics.proofs.Basics.{compared, same, other}
use Rattle.engine.specs.Reference.{at}
use Rattle.engine.specs.Walk.{Resolves, Shaped}
use Rattle.engine.specs.Names.{next_top, top_from, Names, NamesGiven, Named}
use Rattle.engine.specs.declared.terms.walk.Shape.{Shape}
use Rattle.engine.specs.declared.terms.walk.Shape.TheVariants.{Open, Atom as Leaf, Pair}
use Rattle.engine.proofs.FollowLaws.{resolves_same}
use Rattle.engine.proofs.SizeLaws.{followed_size, first_reach, second_reach}
use Rattle.engine.proofs.NameLaws.{top_snoc, word_none, word_snoc_same, word_snoc_other, distinct_init, names_few, named_trans}

-- what `follow` tells
abbrev pub FollowedAs : List ℕ → List ℕ → ℕ → Shape → Type 0
FollowedAs ws s w r = (t : Term) → Resolves ws s w t → Shaped ws s r t

-- by cases, where the answer is known
pub told_open : {ws s : List ℕ} {w x : ℕ} {r : Shape} (t : Term) → FollowedAs ws s w r → r ≡ Open x → Resolves ws s w t → (t ≡ var x) × (x < 2048)
unfolding Shaped
told_open {ws} {s} t f e h = rw e at (f t h)

pub told_leaf : {ws s : List ℕ} {w v : ℕ} {r : Shape} (t : Term) → FollowedAs ws s w r → r ≡ Leaf v → Resolves ws s w t → Shaped ws s (Leaf v) t
told_leaf t f e h = rw e at (f t h)

pub told_pair : {ws s : List ℕ} {w a b : ℕ} {r : Shape} (t : Term) → FollowedAs ws s w r → r ≡ Pair a b → Resolves ws s w t → Shaped ws s (Pair a b) t
told_pair t f e h = rw e at (f t h)

-- a pair and its parts, each smaller when followed; names may be given before the second is gone into
pub record Halves (ws s : List ℕ) (w a b : ℕ) (t : Term) : Type 0 where
  pub first : Term
  pub second : Term
  pub first_here : Resolves ws s a first
  pub second_here : Resolves ws s b second
  pub is : t ≡ pair first second
  pub first_falls : followed_size ws s a < followed_size ws s w
  pub second_falls : {s' : List ℕ} → Resolves ws s' b second → followed_size ws s' b < followed_size ws s w

pub halved : {ws s : List ℕ} {w a b : ℕ} {r : Shape} (t : Term) → FollowedAs ws s w r → r ≡ Pair a b → Resolves ws s w t → Halves ws s w a b t
unfolding Shaped
halved {ws} {s} {w} t f e h =
    let p = told_pair t f e h in
    let q : Resolves ws s w (pair p.0 p.1) = subst (Resolves ws s w) p.2 h in
    record { first = p.0; second = p.1; first_here = p.3; second_here = p.4; is = p.2; first_falls = first_reach q p.3; second_falls = λ i. second_reach q i }

-- naming: what is left to name, and what was given
pub record Naming (ws s₀ s : List ℕ) (w top : ℕ) (goal : List ℕ) : Type 0 where
  pub term : Term
  pub names : List ℕ
  pub here : Resolves ws s w term
  pub named : Named s₀ s top names
  pub same : appear names term ≡ goal

module _ {ws s₀ s : List ℕ} {w top : ℕ} {goal : List ℕ} {r : Shape} (g : Naming ws s₀ s w top goal) (f : FollowedAs ws s w r) where
  pub naming_low : {x : ℕ} → r ≡ Open x → x < 2048
  naming_low e = (told_open g.term f e g.here).1

  pub naming_open : {x top' : ℕ} {s' : List ℕ} → r ≡ Open x → ((names : List ℕ) → Names s top names → Named s s' top' (appear names (var x))) → Named s₀ s' top' goal
  naming_open {x} {top'} {s'} e n =
      let q : appear g.names (var x) ≡ goal = ap (appear g.names) (sym (told_open g.term f e g.here).0) ∙ g.same in
      named_trans g.named (subst (Named s s' top') q (n g.names g.named.given))

  pub naming_leaf : {v : ℕ} → r ≡ Leaf v → Named s₀ s top goal
  unfolding Shaped
  naming_leaf e = subst (Named s₀ s top) (ap (appear g.names) (sym (told_leaf g.term f e g.here).1) ∙ g.same) g.named

  pub naming_pair : {a b : ℕ} → r ≡ Pair a b → Halves ws s w a b g.term
  naming_pair e = halved g.term f e g.here

  module _ {a b top' : ℕ} {s' : List ℕ} (e : r ≡ Pair a b) (n : (t : Term) (names : List ℕ) → Resolves ws s a t → Names s top names → Named s s' top' (appear names t)) where
    first_named : Named s s' top' (appear g.names (naming_pair e).first)
    first_named = n (naming_pair e).first g.names (naming_pair e).first_here g.named.given

    second_still : Resolves ws s' b (naming_pair e).second
    second_still = resolves_same first_named.below first_named.long (naming_pair e).second_here

    pub naming_falls : followed_size ws s' b < followed_size ws s w
    naming_falls = (naming_pair e).second_falls second_still

    pub naming_next : Naming ws s₀ s' b top' goal
    naming_next = record {
      term = (naming_pair e).second;
      names = appear g.names (naming_pair e).first;
      here = second_still;
      named = named_trans g.named first_named;
      same = ap (appear g.names) (sym (naming_pair e).is) ∙ g.same;
    }

-- asking: what is left to ask about
pub record Asking (ws s : List ℕ) (w : ℕ) (names : List ℕ) (goal : Bool) : Type 0 where
  pub term : Term
  pub here : Resolves ws s w term
  pub same : vars_in names term ≡ goal

module _ {ws s : List ℕ} {w : ℕ} {names : List ℕ} {goal : Bool} {r : Shape} (g : Asking ws s w names goal) (f : FollowedAs ws s w r) where
  pub asking_low : {x : ℕ} → r ≡ Open x → x < 2048
  asking_low e = (told_open g.term f e g.here).1

  pub asking_open : {x : ℕ} {q : Bool} → r ≡ Open x → q ≡ member x names → q ≡ goal
  asking_open {x} e n = n ∙ ap (vars_in names) (sym (told_open g.term f e g.here).0) ∙ g.same

  pub asking_leaf : {v : ℕ} → r ≡ Leaf v → true ≡ goal
  unfolding Shaped
  asking_leaf e = ap (vars_in names) (sym (told_leaf g.term f e g.here).1) ∙ g.same

  pub asking_pair : {a b : ℕ} → r ≡ Pair a b → Halves ws s w a b g.term
  asking_pair e = halved g.term f e g.here

  module _ {a b : ℕ} {q : Bool} (e : r ≡ Pair a b) (given : NamesGiven s names) (n : (t : Term) (names : List ℕ) → Resolves ws s a t → NamesGiven s names → q ≡ vars_in names t) where
    both : (q && vars_in names (asking_pair e).second) ≡ goal
    both = let p = asking_pair e in ap (λ k. k && vars_in names p.second) (n p.first names p.first_here given) ∙ ap (vars_in names) (sym p.is) ∙ g.same

    pub asking_not_first : q ≡ false → false ≡ goal
    asking_not_first z = rw z at both

    pub asking_next : q ≡ true → Asking ws s b names goal
    asking_next z = let p = asking_pair e in record { term = p.second; here = p.second_here; same = rw z at both }

-- taking names back
data Snoc : List ℕ → Type 0 where
  none : Snoc []
  last : (xs : List ℕ) (x : ℕ) → Snoc (xs ++ (x ∷ []))

snoc : (xs : List ℕ) → Snoc xs
snoc [] = none
snoc (x ∷ xs) = go (snoc xs)
  where
    go : {ys : List ℕ} → Snoc ys → Snoc (x ∷ ys)
    go none = last [] x
    go (last zs z) = last (x ∷ zs) z

top_count : (top : ℕ) (xs : List ℕ) → top % 4096 + length xs < 4096 → top_from top xs % 4096 ≡ top % 4096 + length xs
unfolding top_from
top_count top [] l = omega arith
top_count top (x ∷ xs) l = let m : next_top top x % 4096 ≡ top % 4096 + 1 = omega arith in omega (arith, m, top_count (next_top top x) xs (omega (arith, m)))

pub record Popped (s : List ℕ) (top : ℕ) : Type 0 where
  pub names : List ℕ
  pub some : 1 ≤ top / 4096
  pub low : top / 4096 ≤ 2048
  pub word : 1 ≤ at s (4096 + (top / 4096 - 1))
  pub named : Named s (set s (4096 + (top / 4096 - 1)) 0) (at s (4096 + (top / 4096 - 1)) - 1) names
  pub falls : (at s (4096 + (top / 4096 - 1)) - 1) % 4096 < top % 4096

-- the last name
popped : {s : List ℕ} {top : ℕ} (xs : List ℕ) (x : ℕ) → scratch_words ≤ length s → Names s top (xs ++ (x ∷ [])) → Popped s top
popped {s} {top} xs x long h =
    let d = distinct_init xs x h.distinct in
    let low : x < 2048 = d.1 in
    let many : length (xs ++ (x ∷ [])) ≡ length xs + 1 = length-append xs (x ∷ []) in
    let few : length (xs ++ (x ∷ [])) ≤ 2048 = names_few (xs ++ (x ∷ [])) h.distinct in
    let c : top_from 0 xs % 4096 ≡ 0 % 4096 + length xs = top_count 0 xs (omega arith) in
    let t : top ≡ next_top (top_from 0 xs) x = h.top_is ∙ top_snoc 0 xs x in
    let e : top / 4096 - 1 ≡ x = omega arith in
    let w : at s (4096 + x) ≡ top_from 0 xs + 1 = h.words x low ∙ word_snoc_same 0 xs x d.2 in
    let p : at s (4096 + (top / 4096 - 1)) ≡ top_from 0 xs + 1 = rw e w in
    record {
      names = xs;
      some = omega arith;
      low = omega arith;
      word = omega arith;
      named = rw e (record {
        given = record {
          top_is = omega arith;
          words = λ y l. elim (compared y x) [
            | same q r ↦ rw q (get_or-set_same s (4096 + x) 0 0 (omega arith) ∙ sym (word_none 0 xs x d.2))
            | other n r ↦ get_or-set_other s (4096 + x) (4096 + y) 0 0 (λ k. n (omega arith)) ∙ h.words y l ∙ word_snoc_other 0 xs x y n
          ];
          distinct = d.0;
        };
        below = λ i l. get_or-set_other s (4096 + x) i 0 0 (λ q. omega arith);
        above = λ i l. get_or-set_other s (4096 + x) i 0 0 (λ q. omega arith);
        long = length-set s (4096 + x) 0;
      });
      falls = omega arith;
    }

pub pop : {s : List ℕ} {top : ℕ} (names : List ℕ) → scratch_words ≤ length s → Names s top names → ¬ (top ≡ 0) → Popped s top
unfolding top_from
pop {s} {top} names long h n = go (snoc names) h
  where
    go : {xs : List ℕ} → Snoc xs → Names s top xs → Popped s top
    go none i = absurd (n i.top_is)
    go (last ys y) i = popped ys y long i

pub all_taken : {s₀ s : List ℕ} {top : ℕ} (names : List ℕ) → Named s₀ s top names → top ≡ 0 → Named s₀ s 0 []
all_taken {s₀} {s} {top} names h z = go (snoc names) h
  where
    go : {xs : List ℕ} → Snoc xs → Named s₀ s top xs → Named s₀ s 0 []
    go none i = rw z at i
    go (last ys y) i = absurd (omega (arith, top_snoc 0 ys y, i.given.top_is))
