-- Lines put: one law for each way in which the code returns or goes on.
use Prim.Native.Nat.{ℕ, suc, ◌+◌, ◌%◌, ◌/◌, ◌<◌, ◌≤◌}
use mathlib.Core.Path.{◌≡◌, refl, sym, ap, subst, ◌∙◌}
use mathlib.Core.Bool.{Bool, true, false, ◌&&◌}
use mathlib.Core.Logic.{◌⊎◌, inl, inr}
use mathlib.Core.List.{List, [], ◌∷◌, ◌++◌, append_assoc, append-nil}
use native.Mathlib.Omega.{arith}
use lib.ListN.{length}
use borrow.Author.Tests.{eq-eqb, ne_eqb}
use Rattle.std.specs.Prelude.{Option, Some, None}
use Rattle.word.specs.Kind.{kind_number}
use Rattle.word.specs.Word.{word}
use Rattle.word.specs.declared.kind.Kind.{Kind}
use Rattle.rules.specs.Syntax.{Atom, Term, var, Sort}
use Rattle.rules.specs.Written.{part, term_words, goal_words, goals_words, sort_kind, atom_word}
use Rattle.semantics.specs.Answer.{index, reify, vars_in, reify_bindings, differ_goals, bindings_in, line_in, line_words, Line, is_sort, lacks, not_all}
use Rattle.semantics.specs.Unify.{member}
use Rattle.semantics.proofs.Basics.{clash, and_true}
use Rattle.engine.specs.Reference.{at}
use Rattle.engine.specs.Term.{Puts, Laid, Placed, all_laid, some_missing}
use Rattle.engine.specs.Line.{half, Equation, Equations, EquationsIn, equation_in, equation_words, equations_words, LineAs, as_sort, as_lacks, as_differ}
use Rattle.engine.specs.declared.writer.line.Listed.{Listed}
use Rattle.engine.specs.declared.writer.line.Listed.TheVariants.{Typed, Lacks}
use Rattle.engine.proofs.TermLaws.{laid_of, missing_of, laid_none, laid_then, missing_then, placed_then, missed_part, missing_end, missing_more, puts_at}

pub half_low : (s : List ℕ) (i : ℕ) → i % 2 ≡ 0 → at s (10752 + i / 2) % 65536 ≡ half s i
unfolding half
half_low s i e = rw (eq-eqb (i % 2) 0 e)

pub half_high : (s : List ℕ) (i : ℕ) → ¬ (i % 2 ≡ 0) → at s (10752 + i / 2) / 65536 ≡ half s i
unfolding half
half_high s i n = rw (ne_eqb (i % 2) 0 n)

-- an equation: its variable, then its right side, then its own word in front
module _ (names : List ℕ) (b : ℕ × Term) where
  equation_is : equation_words names b ≡ part 6 (term_words (var (index b.0 names)) ++ term_words (reify names b.1))
  unfolding equation_words goal_words
  equation_is = refl

  pub equation_some : 0 < length (equation_words names b)
  equation_some = subst (λ v. 0 < length v) (sym equation_is) (omega arith)

  module _ {o : List ℕ} {start end : ℕ} {write : Bool} where
    pub equation_full : end ≤ start → Placed o o start end write (equation_words names b) None
    equation_full l = some_missing (missing_end o start end write (equation_words names b) l equation_some)

    module _ {o₁ : List ℕ} {r : Option ℕ} (v : Placed o o₁ (start + 1) end write (term_words (var (index b.0 names))) r) where
      pub equation_no_variable : r ≡ None → Placed o o₁ start end write (equation_words names b) None
      equation_no_variable e = subst (λ w. Placed o o₁ start end write w None) (sym equation_is) (some_missing (missed_part (missing_more (term_words (reify names b.1)) (missing_of v e))))

      module _ {o₂ : List ℕ} {mid : ℕ} {q : Option ℕ} (e : r ≡ Some mid) (u : Placed o₁ o₂ mid end write (term_words (reify names b.1)) q) where
        pub equation_no_right : q ≡ None → Placed o o₂ start end write (equation_words names b) None
        equation_no_right f = subst (λ w. Placed o o₂ start end write w None) (sym equation_is) (some_missing (missed_part (missing_then (laid_of v e) (missing_of u f))))

    pub equation_put : {o₃ : List ℕ} {r : Option ℕ} → Placed o o₃ start end write (part 6 (term_words (var (index b.0 names)) ++ term_words (reify names b.1))) r → Placed o o₃ start end write (equation_words names b) r
    equation_put {o₃} {r} p = subst (λ w. Placed o o₃ start end write w r) (sym equation_is) p

  pub equation_inner : {o o₁ o₂ : List ℕ} {end mid next : ℕ} {write : Bool} {r q : Option ℕ} (start : ℕ) → Placed o o₁ (start + 1) end write (term_words (var (index b.0 names))) r → r ≡ Some mid
      → Placed o₁ o₂ mid end write (term_words (reify names b.1)) q → q ≡ Some next → Laid o o₂ (start + 1) end write (term_words (var (index b.0 names)) ++ term_words (reify names b.1)) next
  equation_inner start v e u f = laid_then (laid_of v e) (laid_of u f)

-- equations one after the other
pub record Going (ws s o₀ o : List ℕ) (mark count i start place end : ℕ) (write : Bool) (names goal : List ℕ) : Type 0 where
  pub rest : List (ℕ × Term)
  pub here : Equations ws s mark i rest
  pub left : count ≡ i + length rest
  pub known : bindings_in names rest ≡ true
  pub put : List ℕ
  pub laid : Laid o₀ o start end write put place
  pub is : put ++ equations_words names rest ≡ goal

pub going_start : {ws s o : List ℕ} {mark count start end : ℕ} {names : List ℕ} (write : Bool) (cs : List (ℕ × Term)) → EquationsIn ws s mark count cs → Puts s o start end names (bindings_in names cs)
    → Going ws s o o mark count 0 start start end write names (equations_words names cs)
going_start {o = o} {start = start} {end = end} write cs h q = record { rest = cs; here = h.here; left = omega (arith, h.count_is); known = q.known; put = []; laid = laid_none o start end write q.from; is = refl }

-- the next one
pub record Next (ws s o₀ o : List ℕ) (mark count i start place end : ℕ) (write : Bool) (names goal : List ℕ) : Type 0 where
  pub one : ℕ × Term
  pub rest : List (ℕ × Term)
  pub here : Equation ws s mark i one
  pub later : Equations ws s mark (i + 1) rest
  pub left : count ≡ i + 1 + length rest
  pub known : equation_in names one ≡ true
  pub later_known : bindings_in names rest ≡ true
  pub put : List ℕ
  pub laid : Laid o₀ o start end write put place
  pub is : put ++ (equation_words names one ++ equations_words names rest) ≡ goal

module _ {ws s o₀ o : List ℕ} {mark count i start place end : ℕ} {write : Bool} {names goal : List ℕ} (g : Going ws s o₀ o mark count i start place end write names goal) where
  pub going_next : i < count → Next ws s o₀ o mark count i start place end write names goal
  unfolding Equations equations_words
  going_next l = go g.rest g.here g.left g.known g.is
    where
      go : (cs : List (ℕ × Term)) → Equations ws s mark i cs → count ≡ i + length cs → bindings_in names cs ≡ true → g.put ++ equations_words names cs ≡ goal → Next ws s o₀ o mark count i start place end write names goal
      go [] h k e q = absurd (omega (arith, k))
      go (b ∷ cs) h k e q =
          let a = and_true (equation_in names b) (bindings_in names cs) e in
          record { one = b; rest = cs; here = h.0; later = h.1; left = omega (arith, k); known = a.0; later_known = a.1; put = g.put; laid = g.laid; is = q }

  pub going_end : count ≤ i → Placed o₀ o start end write goal (Some place)
  unfolding equations_words
  going_end l = go g.rest g.left g.is
    where
      go : (cs : List (ℕ × Term)) → count ≡ i + length cs → g.put ++ equations_words names cs ≡ goal → Placed o₀ o start end write goal (Some place)
      go [] k q = all_laid (subst (λ v. Laid o₀ o start end write v place) (sym (append-nil g.put) ∙ q) g.laid)
      go (b ∷ cs) k q = absurd (omega (arith, k))

module _ {ws s o₀ o : List ℕ} {mark count i start place end : ℕ} {write : Bool} {names goal : List ℕ} (g : Next ws s o₀ o mark count i start place end write names goal) where
  pub next_missed : {o' : List ℕ} {r : Option ℕ} → Placed o o' place end write (equation_words names g.one) r → r ≡ None → Placed o₀ o' start end write goal None
  next_missed {o'} p e = subst (λ v. Placed o₀ o' start end write v None) (append_assoc g.put _ _ ∙ g.is) (some_missing (missing_more (equations_words names g.rest) (missing_then g.laid (missing_of p e))))

  pub next_put : {o' : List ℕ} {next : ℕ} {r : Option ℕ} → Placed o o' place end write (equation_words names g.one) r → r ≡ Some next → Going ws s o₀ o' mark count (i + 1) start next end write names goal
  next_put p e = record {
    rest = g.rest;
    here = g.later;
    left = g.left;
    known = g.later_known;
    put = g.put ++ equation_words names g.one;
    laid = laid_then g.laid (laid_of p e);
    is = append_assoc g.put _ _ ∙ g.is;
  }

-- what the code reads of an equation
module _ {ws s : List ℕ} {mark i x : ℕ} {b : ℕ × Term} (h : Equation ws s mark i b) (e : x ≡ half s i) where
  -- its variable is put behind its own word
  pub equation_puts : {o : List ℕ} {start end : ℕ} {names : List ℕ} → Puts s o start end names (equation_in names b) → start < end → Puts s o (start + 1) end names (member x names)
  equation_puts {names = names} q l = puts_at q refl (omega arith) (subst (λ y. member y names ≡ true) (sym (e ∙ h.variable)) (and_true (member b.0 names) (vars_in names b.1) q.known).0)

  pub equation_variable : {o o₁ : List ℕ} {end : ℕ} {write : Bool} {r : Option ℕ} {start : ℕ} {names : List ℕ} → Puts s o start end names (equation_in names b) → start < end
      → ((names : List ℕ) → Puts s o (start + 1) end names (member x names) → Placed o o₁ (start + 1) end write (term_words (var (index x names))) r) → Placed o o₁ (start + 1) end write (term_words (var (index b.0 names))) r
  equation_variable {o} {o₁} {end} {write} {r} {start} {names} q l f = subst (λ y. Placed o o₁ (start + 1) end write (term_words (var (index y names))) r) (e ∙ h.variable) (f names (equation_puts q l))

pub right_puts : {s o o₁ : List ℕ} {start mid end : ℕ} {names v : List ℕ} {write : Bool} (b : ℕ × Term) → Puts s o start end names (equation_in names b) → Laid o o₁ (start + 1) end write v mid → Puts s o₁ mid end names (vars_in names b.1)
right_puts {names = names} b q d = puts_at q d.touched.long d.fits (and_true (member b.0 names) (vars_in names b.1) q.known).1

-- short lines: words, then a variable
pub variable_one : (names : List ℕ) (x : ℕ) → length (term_words (var (index x names))) ≡ 1
unfolding term_words
variable_one names x = refl

module _ {bits : ℕ} (kind : ℕ) (names : List ℕ) (x : ℕ) (is_bits : bits ≡ word kind (1 % 268435456)) where
  typed_is : (bits ∷ []) ++ term_words (var (index x names)) ≡ part kind (term_words (var (index x names)))
  typed_is = ap (λ w. w ∷ term_words (var (index x names))) (is_bits ∙ ap (word kind) (sym (variable_one names x)))

  module _ {o o₁ : List ℕ} {start end : ℕ} {write : Bool} {r : Option ℕ} (p : Placed o o₁ start end write (bits ∷ []) r) where
    pub typed_missed : r ≡ None → Placed o o₁ start end write (part kind (term_words (var (index x names)))) None
    typed_missed e = subst (λ v. Placed o o₁ start end write v None) typed_is (some_missing (missing_more (term_words (var (index x names))) (missing_of p e)))

    pub typed_put : {o₂ : List ℕ} {next : ℕ} {q : Option ℕ} → r ≡ Some next → Placed o₁ o₂ next end write (term_words (var (index x names))) q → Placed o o₂ start end write (part kind (term_words (var (index x names)))) q
    typed_put {o₂} {next} {q} e u = subst (λ v. Placed o o₂ start end write v q) typed_is (placed_then (laid_of p e) u)

module _ {bits : ℕ} (tag : ℕ) (names : List ℕ) (x : ℕ) (is_bits : bits ≡ word 9 (2 % 268435456)) where
  lacks_is : (bits ∷ []) ++ ((tag ∷ []) ++ term_words (var (index x names))) ≡ part 9 (tag ∷ term_words (var (index x names)))
  lacks_is = ap (λ w. w ∷ (tag ∷ term_words (var (index x names)))) (is_bits ∙ ap (λ n. word 9 (suc n)) (sym (variable_one names x)))

  module _ {o o₁ : List ℕ} {start end : ℕ} {write : Bool} {r : Option ℕ} (p : Placed o o₁ start end write (bits ∷ []) r) where
    pub lacks_missed : r ≡ None → Placed o o₁ start end write (part 9 (tag ∷ term_words (var (index x names)))) None
    lacks_missed e = subst (λ v. Placed o o₁ start end write v None) lacks_is (some_missing (missing_more ((tag ∷ []) ++ term_words (var (index x names))) (missing_of p e)))

    module _ {o₂ : List ℕ} {next : ℕ} {q : Option ℕ} (e : r ≡ Some next) (u : Placed o₁ o₂ next end write (tag ∷ []) q) where
      pub lacks_no_tag : q ≡ None → Placed o o₂ start end write (part 9 (tag ∷ term_words (var (index x names)))) None
      lacks_no_tag f = subst (λ v. Placed o o₂ start end write v None) lacks_is (some_missing (missing_then (laid_of p e) (missing_more (term_words (var (index x names))) (missing_of u f))))

      pub lacks_put : {o₃ : List ℕ} {last : ℕ} {k : Option ℕ} → q ≡ Some last → Placed o₂ o₃ last end write (term_words (var (index x names))) k → Placed o o₃ start end write (part 9 (tag ∷ term_words (var (index x names)))) k
      lacks_put {o₃} {last} {k} f w = subst (λ v. Placed o o₃ start end write v k) lacks_is (placed_then (laid_of p e) (placed_then (laid_of u f) w))

-- disequalities
differ_words : (names : List ℕ) (b : ℕ × Term) (cs : List (ℕ × Term)) → goals_words (differ_goals (index b.0 names, reify names b.1) (reify_bindings names cs)) ≡ equations_words names (b ∷ cs)
unfolding goal_words equation_words equations_words
differ_words names b [] = sym (append-nil _)
differ_words names b (c ∷ cs) = ap (λ v. equation_words names b ++ v) (differ_words names c cs)

module _ {count : ℕ} (names : List ℕ) (b : ℕ × Term) (cs : List (ℕ × Term)) (many : count ≡ length (b ∷ cs)) where
  single : count ≡ 1 → line_words names (not_all (b ∷ cs)) ≡ equations_words names (b ∷ cs)
  unfolding goal_words equation_words equations_words
  single e = go cs many
    where
      go : (ds : List (ℕ × Term)) → count ≡ suc (length ds) → line_words names (not_all (b ∷ ds)) ≡ equations_words names (b ∷ ds)
      go [] k = sym (append-nil _)
      go (d ∷ ds) k = absurd (omega arith)

  several : ¬ (count ≡ 1) → line_words names (not_all (b ∷ cs)) ≡ part 11 (equations_words names (b ∷ cs))
  unfolding goal_words
  several n = go cs many
    where
      go : (ds : List (ℕ × Term)) → count ≡ suc (length ds) → line_words names (not_all (b ∷ ds)) ≡ part 11 (equations_words names (b ∷ ds))
      go [] k = absurd (n k)
      go (d ∷ ds) k = ap (part 11) (differ_words names b (d ∷ ds))

  module _ {o : List ℕ} {start end : ℕ} {write : Bool} where
    pub differ_one : {o₁ : List ℕ} {r : Option ℕ} → count ≡ 1 → Placed o o₁ start end write (equations_words names (b ∷ cs)) r → Placed o o₁ start end write (line_words names (not_all (b ∷ cs))) r
    differ_one {o₁} {r} e p = subst (λ v. Placed o o₁ start end write v r) (sym (single e)) p

    pub differ_full : ¬ (count ≡ 1) → end ≤ start → Placed o o start end write (line_words names (not_all (b ∷ cs))) None
    differ_full n l = subst (λ v. Placed o o start end write v None) (sym (several n)) (some_missing (missing_end o start end write _ l (omega arith)))

    pub differ_missed : {o₁ : List ℕ} {r : Option ℕ} → ¬ (count ≡ 1) → Placed o o₁ (start + 1) end write (equations_words names (b ∷ cs)) r → r ≡ None → Placed o o₁ start end write (line_words names (not_all (b ∷ cs))) None
    differ_missed {o₁} n p e = subst (λ v. Placed o o₁ start end write v None) (sym (several n)) (some_missing (missed_part (missing_of p e)))

    pub differ_put : {o₁ : List ℕ} {r : Option ℕ} → ¬ (count ≡ 1) → Placed o o₁ start end write (part 11 (equations_words names (b ∷ cs))) r → Placed o o₁ start end write (line_words names (not_all (b ∷ cs))) r
    differ_put {o₁} {r} n p = subst (λ v. Placed o o₁ start end write v r) (sym (several n)) p

-- which line it is
pub record SortLine (k : Kind) (x : ℕ) (l : Line) : Type 0 where
  pub sort : Sort
  pub is_kind : kind_number k ≡ sort_kind sort
  pub low : x < 2048
  pub is : l ≡ is_sort sort x

pub record LacksLine (tag x : ℕ) (l : Line) : Type 0 where
  pub tag_of : Atom
  pub is_tag : tag ≡ atom_word tag_of
  pub low : x < 2048
  pub is : l ≡ lacks tag_of x

module _ {ws s : List ℕ} where
  pub typed_line : {c : Listed} {l : Line} {k : Kind} {x : ℕ} → LineAs ws s c l → c ≡ Typed k x → SortLine k x l
  typed_line {k = k} {x = x} (as_sort {k = m} {x = y} sort e low) q =
      let a : m ≡ k = cc in let b : y ≡ x = cc in
      record { sort = sort; is_kind = ap kind_number (sym a) ∙ e; low = subst (λ z. z < 2048) b low; is = ap (is_sort sort) b }
  typed_line (as_lacks a e low) q = clash (cc)
  typed_line (as_differ b cs h) q = clash (cc)

  pub lacks_line : {c : Listed} {l : Line} {tag x : ℕ} → LineAs ws s c l → c ≡ Lacks tag x → LacksLine tag x l
  lacks_line (as_sort sort e low) q = clash (cc)
  lacks_line {tag = tag} {x = x} (as_lacks {tag = m} {x = y} t e low) q =
      let a : m ≡ tag = cc in let b : y ≡ x = cc in
      record { tag_of = t; is_tag = sym a ∙ e; low = subst (λ z. z < 2048) b low; is = ap (lacks t) b }
  lacks_line (as_differ b cs h) q = clash (cc)

-- its words
pub typed_words : {o o' : List ℕ} {k : Kind} {start end x : ℕ} {write : Bool} {r : Option ℕ} {l : Line} (names : List ℕ) → SortLine k x l → Placed o o' start end write (part (kind_number k) (term_words (var (index x names)))) r → Placed o o' start end write (line_words names l) r
unfolding goal_words
typed_words {o} {o'} {k} {start} {end} {x} {write} {r} names h p =
    subst (λ l. Placed o o' start end write (line_words names l) r) (sym h.is) (subst (λ z. Placed o o' start end write (part z (term_words (var (index x names)))) r) h.is_kind p)

pub lacks_words : {o o' : List ℕ} {start end tag x : ℕ} {write : Bool} {r : Option ℕ} {l : Line} (names : List ℕ) → LacksLine tag x l → Placed o o' start end write (part 9 (tag ∷ term_words (var (index x names)))) r → Placed o o' start end write (line_words names l) r
unfolding goal_words
lacks_words {o} {o'} {start} {end} {tag} {x} {write} {r} names h p =
    subst (λ l. Placed o o' start end write (line_words names l) r) (sym h.is) (subst (λ z. Placed o o' start end write (part 9 (z ∷ term_words (var (index x names)))) r) h.is_tag p)

-- its variables
pub typed_member : {k : Kind} {x : ℕ} {l : Line} (names : List ℕ) → SortLine k x l → line_in names l ≡ true → member x names ≡ true
typed_member names h e = subst (λ l. line_in names l ≡ true) h.is e

pub lacks_member : {tag x : ℕ} {l : Line} (names : List ℕ) → LacksLine tag x l → line_in names l ≡ true → member x names ≡ true
lacks_member names h e = subst (λ l. line_in names l ≡ true) h.is e

-- whether the variables of a line have names
pub record Checking (ws s : List ℕ) (mark count i : ℕ) (names : List ℕ) (goal : Bool) : Type 0 where
  pub rest : List (ℕ × Term)
  pub here : Equations ws s mark i rest
  pub left : count ≡ i + length rest
  pub same : bindings_in names rest ≡ goal

pub record CheckNext (ws s : List ℕ) (mark count i : ℕ) (names : List ℕ) (goal : Bool) : Type 0 where
  pub one : ℕ × Term
  pub rest : List (ℕ × Term)
  pub here : Equation ws s mark i one
  pub later : Equations ws s mark (i + 1) rest
  pub left : count ≡ i + 1 + length rest
  pub same : (equation_in names one && bindings_in names rest) ≡ goal

module _ {ws s : List ℕ} {mark count i : ℕ} {names : List ℕ} {goal : Bool} (g : Checking ws s mark count i names goal) where
  pub check_next : i < count → CheckNext ws s mark count i names goal
  unfolding Equations
  check_next l = go g.rest g.here g.left g.same
    where
      go : (cs : List (ℕ × Term)) → Equations ws s mark i cs → count ≡ i + length cs → bindings_in names cs ≡ goal → CheckNext ws s mark count i names goal
      go [] h k e = absurd (omega (arith, k))
      go (b ∷ cs) h k e = record { one = b; rest = cs; here = h.0; later = h.1; left = omega (arith, k); same = e }

module _ {ws s : List ℕ} {mark count i : ℕ} {names : List ℕ} {goal has : Bool} (g : CheckNext ws s mark count i names goal) (f : has ≡ equation_in names g.one) where
  pub check_fails : has ≡ false → false ≡ goal
  check_fails e = ap (λ m. m && bindings_in names g.rest) (sym e ∙ f) ∙ g.same

  pub check_on : has ≡ true → Checking ws s mark count (i + 1) names goal
  check_on e = record { rest = g.rest; here = g.later; left = g.left; same = ap (λ m. m && bindings_in names g.rest) (sym e ∙ f) ∙ g.same }

-- a line about one variable
pub record OneVariable (x : ℕ) (l : Line) : Type 0 where
  pub low : x < 2048
  pub named : (names : List ℕ) → member x names ≡ line_in names l

pub one_variable : {ws s : List ℕ} {c : Listed} {l : Line} {x : ℕ} → LineAs ws s c l → ((k : Kind) × (c ≡ Typed k x)) ⊎ ((tag : ℕ) × (c ≡ Lacks tag x)) → OneVariable x l
one_variable h (inl q) = let d = typed_line h q.1 in record { low = d.low; named = λ names. ap (line_in names) (sym d.is) }
one_variable h (inr q) = let d = lacks_line h q.1 in record { low = d.low; named = λ names. ap (line_in names) (sym d.is) }
