-- The variables that an answer does not show can be given atoms so that every constraint about them holds.
use Prim.Native.Nat.{◌%◌, ◌*◌, ◌+◌, ◌/◌, ◌<◌, ◌≤◌, suc, ℕ}
use mathlib.Core.Bool.{Bool, ◌&&◌, ◌||◌, cond, false, false≢true, true, true≢false}
use mathlib.Core.List.{List, [], ◌++◌, ◌∷◌, map}
use mathlib.Core.Logic.{◌⊎◌, inl, inr, ⊎_elim}
use mathlib.Core.Path.{◌∙◌, ◌≡◌, ap, refl, subst, sym}
use native.Mathlib.Omega.{arith}
use lib.Dec.{eqb}
use lib.ListN.{length, length-append, length-map}
use borrow.Author.Tests.{eq-eqb, eqb-true}
use Rattle.word.specs.Word.{kind}
use Rattle.rules.specs.Lists.{Each}
use Rattle.rules.specs.Syntax.{Atom, Sort, Term, atom, empty, number, numbers, pair, symbol, symbols, var}
use Rattle.rules.specs.WellFormed.{AtomGood}
use Rattle.semantics.specs.Answer.{Line, bindings_in, is_sort, lacks, line_in, not_all, vars_in}
use Rattle.semantics.specs.Unify.{member}
use Rattle.semantics.specs.Invariant.{Sat}
use Rattle.semantics.specs.Logic.{Assignment, Lacks, OfSort, Proper, Tree, leaf, node, value}
use Rattle.semantics.proofs.Basics.{and_true, clash, each_append, each_map, one_of, or_right}
use Rattle.semantics.proofs.Fresh.{Free, fresh}

-- what a line says

abbrev pub Met : Assignment → Line → Type 0
Met α (is_sort k x) = OfSort k (α x)
Met α (lacks a x) = Lacks a (α x)
Met α (not_all bs) = ¬ (Sat α bs)

-- two assignments that agree on the names agree on the terms and lines over them
module _ (names : List ℕ) (α β : Assignment) (same : (x : ℕ) → member x names ≡ true → β x ≡ α x) where
  pub value_agrees : (t : Term) → vars_in names t ≡ true → value β t ≡ value α t
  value_agrees (var x) e = same x e
  value_agrees (atom a) e = refl
  value_agrees (pair s t) e = let (p, q) = and_true _ _ e in rw (value_agrees s p, value_agrees t q)

  pub values_agree : (ts : List Term) → Each (λ t. vars_in names t ≡ true) ts → map (value β) ts ≡ map (value α) ts
  values_agree [] e = refl
  values_agree (t ∷ ts) e = rw (value_agrees t e.0, values_agree ts e.1)

  equal_agrees : (bs : List (ℕ × Term)) → bindings_in names bs ≡ true → Sat β bs → Sat α bs
  equal_agrees [] e h = tt
  equal_agrees (b ∷ bs) e h =
      let (pq, r) = and_true _ _ e in
      let (p, q) = and_true _ _ pq in
      ((sym (same b.0 p) ∙ h.0) ∙ value_agrees b.1 q, equal_agrees bs r h.1)

  pub met_agrees : (l : Line) → line_in names l ≡ true → Met α l → Met β l
  met_agrees (is_sort k x) e h = rw (same x e) h
  met_agrees (lacks a x) e h = rw (same x e) h
  met_agrees (not_all bs) e h = λ q. h (equal_agrees bs e q)

-- payloads, and atoms made from them

abbrev pub atom_payload : Atom → List ℕ
atom_payload (symbol p) = p ∷ []
atom_payload (number p) = p ∷ []
atom_payload empty = []

abbrev pub tree_payload : Tree → List ℕ
tree_payload (leaf a) = atom_payload a
tree_payload (node s t) = []

abbrev pub make : Sort → ℕ → Atom
make symbols p = symbol p
make numbers p = number p

make_payload : (k : Sort) (p : ℕ) → atom_payload (make k p) ≡ p ∷ []
make_payload symbols p = refl
make_payload numbers p = refl

make_inj : (k k' : Sort) (p q : ℕ) → make k p ≡ make k' q → p ≡ q
make_inj symbols symbols p q e = cc
make_inj symbols numbers p q e = cc
make_inj numbers symbols p q e = cc
make_inj numbers numbers p q e = cc

make_sort : (k : Sort) (p : ℕ) → OfSort k (leaf (make k p))
make_sort symbols p = tt
make_sort numbers p = tt

make_small : (k : Sort) (p : ℕ) → p < 268435456 → AtomGood (make k p)
make_small symbols p h = h
make_small numbers p h = h

abbrev pub Among : List ℕ → List ℕ → Type 0
Among F ps = Each (λ p. member p F ≡ true) ps

-- an equation x = t is no equation of a variable with itself, and its variables are below a bound
abbrev pub Fit : ℕ → ℕ → Term → Type 0
Fit top x (var y) = (x < top) × (y < top) × (x ≡ y → ⊥)
Fit top x (atom a) = Unit {0}
Fit top x (pair s t) = Unit {0}

module _ (names : List ℕ) (α : Assignment) where
  -- the tree-payload at the place of the first absent variable
  abbrev pub spot : Term → Tree → List ℕ
  spot (var y) T = tree_payload T
  spot (atom a) T = []
  spot (pair s t) (leaf a) = []
  spot (pair s t) (node S T) = cond (vars_in names s) (spot t T) (spot s S)

  abbrev pub forbid_eq : ℕ → Term → List ℕ
  forbid_eq x t = cond (member x names) (spot t (α x)) (tree_payload (value α t))

  -- what the absent variables avoid, so that the first equation with such a variable fails
  abbrev pub forbid : List (ℕ × Term) → List ℕ
  forbid [] = []
  forbid (b ∷ bs) = cond (member b.0 names && vars_in names b.1) (forbid bs) (forbid_eq b.0 b.1)

-- what a line asks of the choice of atoms
abbrev pub Ready : List ℕ → Assignment → (ℕ → Sort) → List ℕ → ℕ → Line → Type 0
Ready names α kind F top (is_sort k x) = kind x ≡ k
Ready names α kind F top (lacks a x) = Among F (atom_payload a)
Ready names α kind F top (not_all bs) = Each (λ b. Fit top b.0 b.1) bs × Among F (forbid names α bs)

module _ (names : List ℕ) (α : Assignment) (kind : ℕ → Sort) (pay : ℕ → ℕ) where
  abbrev pub fill : Assignment
  fill x = cond (member x names) (α x) (leaf (make (kind x) (pay x)))

  pub fill_in : (x : ℕ) → member x names ≡ true → fill x ≡ α x
  fill_in x e = rw e

  pub fill_out : (x : ℕ) → member x names ≡ false → fill x ≡ leaf (make (kind x) (pay x))
  fill_out x e = rw e

  module _ (F : List ℕ) (top : ℕ) (free : (x : ℕ) → member (pay x) F ≡ false) (apart : (x y : ℕ) → x < top → y < top → pay x ≡ pay y → x ≡ y) where
    -- an absent variable's value is no tree whose tree-payload is avoided
    avoids : (x : ℕ) (T : Tree) → member x names ≡ false → Among F (tree_payload T) → fill x ≡ T → ⊥
    avoids x T e w q =
        let r : leaf (make (kind x) (pay x)) ≡ T = sym (fill_out x e) ∙ q in
        let v : Among F (tree_payload (leaf (make (kind x) (pay x)))) = subst (λ (T : Tree). Among F (tree_payload T)) (sym r) w in
        let u : Among F (pay x ∷ []) = subst (λ (ps : List ℕ). Among F ps) (make_payload (kind x) (pay x)) v in
        true≢false (sym u.0 ∙ free x)

    spot_apart : (t : Term) (T : Tree) → vars_in names t ≡ false → Among F (spot names α t T) → value fill t ≡ T → ⊥
    spot_apart (var y) T e w q = avoids y T e w q
    spot_apart (atom a) T e w q = true≢false e
    spot_apart (pair s t) (leaf a) e w q = let z : ◌≡◌ {A = ℕ} 0 1 = cc in omega arith
    spot_apart (pair s t) (node S T) e w q = go (vars_in names s) refl e w (λ h v. spot_apart t T h v (cc)) (λ h v. spot_apart s S h v (cc))
      where
        go : (b : Bool) → vars_in names s ≡ b → (b && vars_in names t) ≡ false → Among F (cond b (spot names α t T) (spot names α s S))
            → (vars_in names t ≡ false → Among F (spot names α t T) → ⊥) → (vars_in names s ≡ false → Among F (spot names α s S) → ⊥) → ⊥
        go true r h v f g = f h v
        go false r h v f g = g r v

    -- a variable that is absent is not equal to the other side
    left_apart : (x : ℕ) (t : Term) → Fit top x t → member x names ≡ false → Among F (tree_payload (value α t)) → fill x ≡ value fill t → ⊥
    left_apart x (var y) fit e w q = go (member y names) refl
      where
        go : (b : Bool) → member y names ≡ b → ⊥
        go true r = avoids x (α y) e w (q ∙ fill_in y r)
        go false r = fit.2 (apart x y fit.0 fit.1 (make_inj (kind x) (kind y) (pay x) (pay y) (cc (fill_out x e, fill_out y r))))
    left_apart x (atom a) fit e w q = avoids x (leaf a) e w q
    left_apart x (pair s t) fit e w q = let p = fill_out x e in let z : ◌≡◌ {A = ℕ} 0 1 = cc in omega arith

    eq_apart : (x : ℕ) (t : Term) → Fit top x t → (member x names && vars_in names t) ≡ false → Among F (forbid_eq names α x t) → fill x ≡ value fill t → ⊥
    eq_apart x t fit e w q = go (member x names) refl e w
      where
        go : (b : Bool) → member x names ≡ b → (b && vars_in names t) ≡ false → Among F (cond b (spot names α t (α x)) (tree_payload (value α t))) → ⊥
        go true r h v = spot_apart t (α x) h v (sym q ∙ fill_in x r)
        go false r h v = left_apart x t fit r v q

    differ_out : (bs : List (ℕ × Term)) → Each (λ b. Fit top b.0 b.1) bs → bindings_in names bs ≡ false → Among F (forbid names α bs) → Sat fill bs → ⊥
    differ_out [] fit e w q = true≢false e
    differ_out (b ∷ bs) fit e w q = go (member b.0 names && vars_in names b.1) refl e w (λ h v. differ_out bs fit.1 h v q.1)
      where
        go : (c : Bool) → (member b.0 names && vars_in names b.1) ≡ c → (c && bindings_in names bs) ≡ false
            → Among F (cond c (forbid names α bs) (forbid_eq names α b.0 b.1))
            → (bindings_in names bs ≡ false → Among F (forbid names α bs) → ⊥) → ⊥
        go true r h v f = f h v
        go false r h v f = eq_apart b.0 b.1 fit.0 r v q.0

    lacks_out : (a : Atom) (x : ℕ) → member x names ≡ false → Among F (atom_payload a) → Lacks a (fill x)
    lacks_out a x e w = rw (fill_out x e) (λ q. avoids x (leaf a) e w (fill_out x e ∙ ap leaf (sym q)))

    met_out : (l : Line) → line_in names l ≡ false → Ready names α kind F top l → Met fill l
    met_out (is_sort k x) e r = rw (fill_out x e, r) (make_sort k (pay x))
    met_out (lacks a x) e r = lacks_out a x e r
    met_out (not_all bs) e r = differ_out bs r.0 e r.1

    pub met_fill : (l : Line) → Ready names α kind F top l → (line_in names l ≡ true → Met α l) → Met fill l
    met_fill l r h = go (line_in names l) refl
      where
        go : (b : Bool) → line_in names l ≡ b → Met fill l
        go true e = met_agrees names α fill fill_in l e (h e)
        go false e = met_out l e r

-- The payloads of the absent variables: 2048 in a row, none of them in the list.
abbrev pub pay : List ℕ → ℕ → ℕ
pay F x = (fresh (map (λ p. p / 2048) F)).num * 2048 + x % 2048

member_map : (p : ℕ) (F : List ℕ) → member p F ≡ true → member (p / 2048) (map (λ q. q / 2048) F) ≡ true
member_map p [] e = e
member_map p (y ∷ ys) e = go (one_of (eqb p y) (member p ys) e) (member_map p ys)
  where
    go : (eqb p y ≡ true) ⊎ (member p ys ≡ true) → (member p ys ≡ true → member (p / 2048) (map (λ q. q / 2048) ys) ≡ true)
        → (eqb (p / 2048) (y / 2048) || member (p / 2048) (map (λ q. q / 2048) ys)) ≡ true
    go (inl r) ih = rw (eq-eqb (p / 2048) (y / 2048) (ap (λ (q : ℕ). q / 2048) (eqb-true p y r)))
    go (inr r) ih = rw (ih r) (or_right (eqb (p / 2048) (y / 2048)))

module _ (F : List ℕ) (few : length F < 131072) where
  pub pay_small : (x : ℕ) → pay F x < 268435456
  pay_small x = let f = fresh (map (λ p. p / 2048) F) in let h = f.high in let l = length-map F (λ p. p / 2048) in omega arith

  pub pay_free : (x : ℕ) → member (pay F x) F ≡ false
  pay_free x = go (member (pay F x) F) refl
    where
      f : Free 0 (map (λ p. p / 2048) F)
      f = fresh (map (λ p. p / 2048) F)

      div : pay F x / 2048 ≡ f.num
      div = omega arith

      go : (b : Bool) → member (pay F x) F ≡ b → member (pay F x) F ≡ false
      go true e = absurd (true≢false (sym (rw div at (member_map (pay F x) F e)) ∙ f.free))
      go false e = e

  pub pay_apart : (x y : ℕ) → x < 2048 → y < 2048 → pay F x ≡ pay F y → x ≡ y
  pay_apart x y h k e = omega arith

-- lists of numbers within one another

pub member_left : (p : ℕ) (F G : List ℕ) → member p F ≡ true → member p (F ++ G) ≡ true
member_left p [] G e = clash (cc)
member_left p (y ∷ ys) G e = ⊎_elim (λ h. rw h) (λ h. rw (member_left p ys G h) (or_right (eqb p y))) (one_of (eqb p y) (member p ys) e)

member_right : (p : ℕ) (F G : List ℕ) → member p G ≡ true → member p (F ++ G) ≡ true
member_right p [] G e = e
member_right p (y ∷ ys) G e = rw (member_right p ys G e) (or_right (eqb p y))

pub among_left : (F G ps : List ℕ) → Among F ps → Among (F ++ G) ps
among_left F G ps h = each_map (λ p. member_left p F G) ps h

pub among_right : (F G ps : List ℕ) → Among G ps → Among (F ++ G) ps
among_right F G ps h = each_map (λ p. member_right p F G) ps h

pub among_self : (F : List ℕ) → Among F F
among_self [] = tt
among_self (y ∷ ys) = (rw (eq-eqb y y refl), among_right (y ∷ []) ys ys (among_self ys))

-- at most one tree-payload is forbidden for each line of disequalities

pub atom_payload_one : (a : Atom) → length (atom_payload a) ≤ 1
atom_payload_one (symbol p) = omega arith
atom_payload_one (number p) = omega arith
atom_payload_one empty = omega arith

payload_one : (T : Tree) → length (tree_payload T) ≤ 1
payload_one (leaf a) = atom_payload_one a
payload_one (node s t) = omega arith

cond_one : (b : Bool) (F G : List ℕ) → length F ≤ 1 → length G ≤ 1 → length (cond b F G) ≤ 1
cond_one true F G h k = h
cond_one false F G h k = k

module _ (names : List ℕ) (α : Assignment) where
  spot_one : (t : Term) (T : Tree) → length (spot names α t T) ≤ 1
  spot_one (var y) T = payload_one T
  spot_one (atom a) T = omega arith
  spot_one (pair s t) (leaf a) = omega arith
  spot_one (pair s t) (node S T) = cond_one (vars_in names s) _ _ (spot_one t T) (spot_one s S)

  forbid_one : (bs : List (ℕ × Term)) → length (forbid names α bs) ≤ 1
  forbid_one [] = omega arith
  forbid_one (b ∷ bs) = cond_one (member b.0 names && vars_in names b.1) _ _ (forbid_one bs)
      (cond_one (member b.0 names) _ _ (spot_one b.1 (α b.0)) (payload_one (value α b.1)))

  abbrev pub forbids : List Line → List ℕ
  forbids [] = []
  forbids (is_sort k x ∷ ls) = forbids ls
  forbids (lacks a x ∷ ls) = forbids ls
  forbids (not_all bs ∷ ls) = forbid names α bs ++ forbids ls

abbrev pub differs_in : List Line → ℕ
differs_in [] = 0
differs_in (is_sort k x ∷ ls) = differs_in ls
differs_in (lacks a x ∷ ls) = differs_in ls
differs_in (not_all bs ∷ ls) = suc (differs_in ls)

forbids_few : (names : List ℕ) (α : Assignment) (ls : List Line) → length (forbids names α ls) ≤ differs_in ls
forbids_few names α [] = omega arith
forbids_few names α (is_sort k x ∷ ls) = forbids_few names α ls
forbids_few names α (lacks a x ∷ ls) = forbids_few names α ls
forbids_few names α (not_all bs ∷ ls) =
    let h = forbids_few names α ls in let k = forbid_one names α bs in rw (length-append (forbid names α bs) (forbids names α ls)) (omega arith)

-- What is asked of the lines of an answer: each variable has one kind, the tags are in a list, and each equation is between two things.
abbrev pub LineGood : (ℕ → Sort) → List ℕ → Line → Type 0
LineGood kind tags (is_sort k x) = kind x ≡ k
LineGood kind tags (lacks a x) = Among tags (atom_payload a)
LineGood kind tags (not_all []) = ⊥
LineGood kind tags (not_all (b ∷ bs)) = Each (λ b. Fit 2048 b.0 b.1) (b ∷ bs)

ready : (names : List ℕ) (α : Assignment) (kind : ℕ → Sort) (tags F : List ℕ) → ((ps : List ℕ) → Among tags ps → Among F ps)
    → (ls : List Line) → Among F (forbids names α ls) → Each (LineGood kind tags) ls → Each (Ready names α kind F 2048) ls
ready names α kind tags F i [] w g = tt
ready names α kind tags F i (is_sort k x ∷ ls) w g = (g.0, ready names α kind tags F i ls w g.1)
ready names α kind tags F i (lacks a x ∷ ls) w g = (i (atom_payload a) g.0, ready names α kind tags F i ls w g.1)
ready names α kind tags F i (not_all [] ∷ ls) w g = absurd g.0
ready names α kind tags F i (not_all (b ∷ bs) ∷ ls) w g =
    let p = ((each_append (λ p. member p F ≡ true) (forbid names α (b ∷ bs)) _).0 w).0 in let q = ((each_append (λ p. member p F ≡ true) (forbid names α (b ∷ bs)) _).0 w).1 in
    ((g.0, p), ready names α kind tags F i ls q g.1)

-- an assignment that agrees with α on the names and meets all lines
pub record Filled (names : List ℕ) (α : Assignment) (ls : List Line) : Type 0 where
  pub assignment : Assignment
  pub proper : (x : ℕ) → Proper (assignment x)
  pub agrees : (x : ℕ) → member x names ≡ true → assignment x ≡ α x
  pub meets : Each (Met assignment) ls

pub filled : (names : List ℕ) (α : Assignment) → ((x : ℕ) → Proper (α x)) → (kind : ℕ → Sort) (tags : List ℕ) (ls : List Line)
    → Each (LineGood kind tags) ls → length tags + differs_in ls < 131072 → Each (λ l. line_in names l ≡ true → Met α l) ls → Filled names α ls
filled names α prop kind tags ls good few met =
    record { assignment = β; proper = small; agrees = fill_in names α kind (pay F); meets = meets ls rdy met }
  where
    F : List ℕ
    F = tags ++ forbids names α ls

    few' : length F < 131072
    few' = let h = forbids_few names α ls in rw (length-append tags (forbids names α ls)) (omega arith)

    β : Assignment
    β = fill names α kind (pay F)

    rdy : Each (Ready names α kind F 2048) ls
    rdy = ready names α kind tags F (λ ps. among_left tags (forbids names α ls) ps) ls (among_right tags (forbids names α ls) (forbids names α ls) (among_self (forbids names α ls))) good

    meets : (ms : List Line) → Each (Ready names α kind F 2048) ms → Each (λ l. line_in names l ≡ true → Met α l) ms → Each (Met β) ms
    meets [] r h = tt
    meets (m ∷ ms) r h = (met_fill names α kind (pay F) F 2048 (pay_free F few') (pay_apart F few') m r.0 h.0, meets ms r.1 h.1)

    small : (x : ℕ) → Proper (β x)
    small x = go (member x names)
      where
        go : (b : Bool) → Proper (cond b (α x) (leaf (make (kind x) (pay F x))))
        go true = prop x
        go false = make_small (kind x) (pay F x) (pay_small F few' x)

-- With no names at all: some assignment meets the lines.
none_in : (kind : ℕ → Sort) (tags : List ℕ) (α : Assignment) (ls : List Line) → Each (LineGood kind tags) ls → Each (λ l. line_in [] l ≡ true → Met α l) ls
none_in kind tags α [] g = tt
none_in kind tags α (is_sort k x ∷ ls) g = ((λ e. absurd (false≢true e)), none_in kind tags α ls g.1)
none_in kind tags α (lacks a x ∷ ls) g = ((λ e. absurd (false≢true e)), none_in kind tags α ls g.1)
none_in kind tags α (not_all [] ∷ ls) g = absurd g.0
none_in kind tags α (not_all (b ∷ bs) ∷ ls) g = ((λ e. absurd (false≢true e)), none_in kind tags α ls g.1)

pub some_filled : (kind : ℕ → Sort) (tags : List ℕ) (ls : List Line) → Each (LineGood kind tags) ls → length tags + differs_in ls < 131072
    → Filled [] (λ x. leaf empty) ls
some_filled kind tags ls good few = filled [] (λ x. leaf empty) (λ x. tt) kind tags ls good few (none_in kind tags (λ x. leaf empty) ls good)
