-- The lines of types and absences: one law for each way in which the code returns or goes on.
use Prim.Native.Nat.{ℕ}
use mathlib.Core.Path.{◌≡◌, refl, sym, ap, subst, ◌∙◌}
use mathlib.Core.List.{List, [], ◌∷◌, ◌++◌}
use lib.ListN.{length}
use Rattle.word.specs.Kind.{kind_number}
use Rattle.word.specs.declared.kind.Kind.{Kind}
use Rattle.rules.specs.Syntax.{Atom, Term}
use Rattle.semantics.specs.Answer.{Line, is_sort, lacks, typed_lines, lacks_each}
use Rattle.engine.specs.Walk.{Shaped}
use Rattle.engine.specs.Line.{LineAs, as_sort, as_lacks}
use Rattle.engine.specs.Lines.{add_line, add_lines, AnswerSoFar, Writing, Extended, occurrences, AddsAbsent, AddsTyped}
use Rattle.engine.specs.declared.terms.walk.Shape.{Shape}
use Rattle.engine.specs.declared.terms.walk.Shape.TheVariants.{Open, Atom as Leaf, Pair}
use Rattle.engine.specs.declared.writer.line.Listed.{Listed}
use Rattle.engine.specs.declared.writer.line.Listed.TheVariants.{Typed, Lacks}
use Rattle.engine.proofs.TermLaws.{room_same}
use Rattle.engine.proofs.NamingLaws.{FollowedAs, told_open, told_leaf, told_pair, Halves, halved}

-- what `add_line` tells
abbrev pub Adds : List ℕ → List ℕ → List ℕ → List ℕ → Listed → ℕ → ℕ → ℕ → ℕ → Type 0
Adds ws s out out' line first end place place' = (g : Writing s out first end place) (l : Line) → LineAs ws s line l → Extended g out' place' (l ∷ [])

-- a type
module _ {ws s out : List ℕ} {kind : Kind} {w first end place : ℕ} (g : AddsTyped ws s out (kind_number kind) w first end place) {r : Shape} (f : FollowedAs ws s w r) where
  pub typed_as : {x : ℕ} → r ≡ Open x → LineAs ws s (Typed kind x) (is_sort g.sort x)
  typed_as e = as_sort g.sort g.is_kind (told_open g.term f e g.here).1

  pub typed_add : {out' : List ℕ} {x place' : ℕ} → r ≡ Open x → Adds ws s out out' (Typed kind x) first end place place' → Extended g.writing out' place' (typed_lines g.sort g.term)
  typed_add {out'} {x} {place'} e a = subst (λ t. Extended g.writing out' place' (typed_lines g.sort t)) (sym (told_open g.term f e g.here).0) (a g.writing (is_sort g.sort x) (typed_as e))

pub typed_other : {ws s out : List ℕ} {kind w first end place : ℕ} {r : Shape} (g : AddsTyped ws s out kind w first end place) → FollowedAs ws s w r → ((x : ℕ) → r ≡ Open x → ⊥) → Extended g.writing out place (typed_lines g.sort g.term)
unfolding add_lines Shaped
typed_other {out = out} {place = place} {r = r} g f n = go r refl
  where
    as_before : {t : Term} → g.term ≡ t → typed_lines g.sort t ≡ [] → Extended g.writing out place (typed_lines g.sort g.term)
    as_before {t} q k = subst (λ u. Extended g.writing out place u) (sym k ∙ ap (typed_lines g.sort) (sym q)) g.writing.page

    go : (k : Shape) → r ≡ k → Extended g.writing out place (typed_lines g.sort g.term)
    go (Open x) e = absurd (n x e)
    go (Leaf v) e = as_before (told_leaf g.term f e g.here).1 refl
    go (Pair a b) e = as_before (told_pair g.term f e g.here).2 refl

-- the output is as long as before
pub page_long : {o o' out out' : List ℕ} {begin first end place first' end' place' begin' : ℕ} {head head' : List ℕ} {lines lines' : List (List ℕ)} → AnswerSoFar o out begin first end place head lines → AnswerSoFar o' out' begin' first' end' place' head' lines' → o ≡ o' → length out' ≡ length out
page_long h i e = i.touched.long ∙ ap length (sym e) ∙ sym h.touched.long

-- an absence
pub lacks_append : (a : Atom) (xs ys : List ℕ) → lacks_each a (xs ++ ys) ≡ lacks_each a xs ++ lacks_each a ys
lacks_append a [] ys = refl
lacks_append a (x ∷ xs) ys = ap (λ l. lacks a x ∷ l) (lacks_append a xs ys)

pub add_append : (names : List ℕ) (lines : List (List ℕ)) (xs ys : List Line) → add_lines names lines (xs ++ ys) ≡ add_lines names (add_lines names lines xs) ys
unfolding add_lines
add_append names lines [] ys = refl
add_append names lines (x ∷ xs) ys = add_append names (add_line names lines x) xs ys

-- where the loop is: the lines so far, and what is left of the term
pub record Absent (ws s before out : List ℕ) (begin tag w first end place : ℕ) (head : List ℕ) (goal : List (List ℕ)) : Type 0 where
  pub rest : AddsAbsent ws s out tag w first end place
  pub is_before : rest.writing.before ≡ before
  pub is_begin : rest.writing.begin ≡ begin
  pub is_head : rest.writing.head ≡ head
  pub is_goal : add_lines rest.writing.names rest.writing.lines (lacks_each rest.tag_of (occurrences rest.term)) ≡ goal

-- the same, for what the caller knows
abbrev pub AbsentFor : (ws s out₀ out : List ℕ) (tag w₀ w first end place₀ place : ℕ) → AddsAbsent ws s out₀ tag w₀ first end place₀ → Type 0
AbsentFor ws s out₀ out tag w₀ w first end place₀ place g =
    Absent ws s g.writing.before out g.writing.begin tag w first end place g.writing.head (add_lines g.writing.names g.writing.lines (lacks_each g.tag_of (occurrences g.term)))

pub absent_start : {ws s out : List ℕ} {tag w first end place : ℕ} (g : AddsAbsent ws s out tag w first end place) → AbsentFor ws s out out tag w w first end place place g
absent_start g = record { rest = g; is_before = refl; is_begin = refl; is_head = refl; is_goal = refl }

module _ {ws s before out : List ℕ} {begin tag w first end place : ℕ} {head : List ℕ} {goal : List (List ℕ)} (h : Absent ws s before out begin tag w first end place head goal) where
  pub absent_as : {r : Shape} → FollowedAs ws s w r → {x : ℕ} → r ≡ Open x → LineAs ws s (Lacks tag x) (lacks h.rest.tag_of x)
  absent_as f e = as_lacks h.rest.tag_of h.rest.is_tag (told_open h.rest.term f e h.rest.here).1

  close : {out' : List ℕ} {place' : ℕ} → Extended h.rest.writing out' place' (lacks_each h.rest.tag_of (occurrences h.rest.term)) → AnswerSoFar before out' begin first end place' head goal
  close {out'} {place'} p =
      let k : Writing s out first end place = h.rest.writing in
      subst (λ z. AnswerSoFar z out' begin first end place' head goal) h.is_before
      (subst (λ z. AnswerSoFar k.before out' z first end place' head goal) h.is_begin
      (subst (λ z. AnswerSoFar k.before out' k.begin first end place' z goal) h.is_head
      (subst (λ z. AnswerSoFar k.before out' k.begin first end place' k.head z) h.is_goal p)))

  pub absent_add : {r : Shape} → FollowedAs ws s w r → {out' : List ℕ} {x place' : ℕ} → r ≡ Open x → Adds ws s out out' (Lacks tag x) first end place place' → AnswerSoFar before out' begin first end place' head goal
  unfolding occurrences
  absent_add {r} f {out'} {x} {place'} e a =
      close (subst (λ t. Extended h.rest.writing out' place' (lacks_each h.rest.tag_of (occurrences t))) (sym (told_open h.rest.term f e h.rest.here).0) (a h.rest.writing (lacks h.rest.tag_of x) (absent_as f e)))

  pub absent_leaf : {r : Shape} → FollowedAs ws s w r → {v : ℕ} → r ≡ Leaf v → AnswerSoFar before out begin first end place head goal
  unfolding add_lines occurrences Shaped
  absent_leaf f e = close (subst (λ t. Extended h.rest.writing out place (lacks_each h.rest.tag_of (occurrences t))) (sym (told_leaf h.rest.term f e h.rest.here).1) h.rest.writing.page)

  pub absent_pair : {r : Shape} → FollowedAs ws s w r → {a b : ℕ} → r ≡ Pair a b → Halves ws s w a b h.rest.term
  absent_pair f e = halved h.rest.term f e h.rest.here

  pub absent_first : {a b : ℕ} → Halves ws s w a b h.rest.term → AddsAbsent ws s out tag a first end place
  absent_first p = record { writing = h.rest.writing; tag_of = h.rest.tag_of; is_tag = h.rest.is_tag; term = p.first; here = p.first_here }

  pub absent_next : {a b : ℕ} {out' : List ℕ} {place' : ℕ} (p : Halves ws s w a b h.rest.term)
      → ((k : AddsAbsent ws s out tag a first end place) → Extended k.writing out' place' (lacks_each k.tag_of (occurrences k.term)))
      → Absent ws s before out' begin tag b first end place' head goal
  unfolding occurrences absent_first
  absent_next {a} {b} {out'} {place'} p n =
      let tag_of : Atom = h.rest.tag_of in
      let k : Writing s out first end place = h.rest.writing in
      record {
        rest = record {
          writing = record {
            before = k.before;
            begin = k.begin;
            head = k.head;
            lines = add_lines k.names k.lines (lacks_each tag_of (occurrences p.first));
            names = k.names;
            page = n (absent_first p);
            given = k.given;
            room = room_same (page_long k.page (n (absent_first p)) refl) k.room;
          };
          tag_of = tag_of;
          is_tag = h.rest.is_tag;
          term = p.second;
          here = p.second_here;
        };
        is_before = h.is_before;
        is_begin = h.is_begin;
        is_head = h.is_head;
        is_goal = sym (add_append k.names k.lines (lacks_each tag_of (occurrences p.first)) (lacks_each tag_of (occurrences p.second)))
            ∙ ap (add_lines k.names k.lines) (sym (lacks_append tag_of (occurrences p.first) (occurrences p.second)))
            ∙ ap (λ t. add_lines k.names k.lines (lacks_each tag_of (occurrences t))) (sym p.is) ∙ h.is_goal;
      }
