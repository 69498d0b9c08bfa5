-- What the occurs check finds: the variable is a node of the resolved term, although no bound variable is entered a second time.
use Prim.Native.Nat.{◌+◌, ◌≤◌, suc, zero, ℕ}
use mathlib.Core.Bool.{Bool, ◌||◌, false, or_assoc, or-false, true}
use mathlib.Core.List.{List, [], ◌∷◌}
use mathlib.Core.Logic.{◌⊎◌, inl, inr, ⊎_elim}
use mathlib.Core.Option.{Option, none, some}
use mathlib.Core.Path.{◌∙◌, ◌≡◌, ap, ap₂, refl, sym}
use native.Mathlib.Omega.{arith}
use lib.Dec.{eqb, ltb}
use lib.ListN.{length}
use borrow.Author.Tests.{eq-eqb, eqb-true}
use Rattle.rules.specs.Lists.{Each}
use Rattle.rules.specs.Reading.{choose}
use Rattle.rules.specs.Syntax.{Term, atom, pair, var}
use Rattle.semantics.specs.Invariant.{Good, some_node}
use Rattle.semantics.specs.Published.{passes}
use Rattle.semantics.specs.Steps.{Outcome, at_bound, done, most, stop, waiting}
use Rattle.semantics.specs.Substitution.{Substitution, last_variable, lookup, resolve, walk, walk_for}
use Rattle.semantics.specs.Unify.{Checks, Node, below, enter, is_var, member, node_at, occurs_check, occurs_node, passed, sought, was_entered, way_end}
use Rattle.semantics.proofs.Basics.{clash, one_of, or_right}
use Rattle.semantics.proofs.ScanLaws.{Leaf, is_var_heads, node_leaf, node_parts, passes_resolved}
use Rattle.semantics.proofs.StepLaws.{More, Spent, more_bound, more_done, spent_up}
use Rattle.semantics.proofs.SubstitutionLaws.{followed_follow, size}

-- what one step of the check comes to
pub data OccursStep (x : ℕ) (bs : Substitution) (es : List ℕ) (ws : List Term) (t : Term) (left : ℕ) (o : Outcome Bool) : Type 0 where
  is_hit : node_at x bs es t ≡ sought → o ≡ done true left → OccursStep x bs es ws t left o
  goes_down : (ds : List ℕ) (a b : Term) → node_at x bs es t ≡ below ds a b → ltb (length ws) (most waiting) ≡ true → o ≡ occurs_check x bs ds (b ∷ ws) a left → OccursStep x bs es ws t left o
  is_full : (ds : List ℕ) (a b : Term) → node_at x bs es t ≡ below ds a b → ltb (length ws) (most waiting) ≡ false → o ≡ stop (at_bound waiting) (suc left) → OccursStep x bs es ws t left o
  is_last : node_at x bs es t ≡ passed → ws ≡ [] → o ≡ done false left → OccursStep x bs es ws t left o
  goes_further : (v : Term) (vs : List Term) → node_at x bs es t ≡ passed → ws ≡ v ∷ vs → o ≡ occurs_check x bs es vs v left → OccursStep x bs es ws t left o

pub occurs_step : (x : ℕ) (bs : Substitution) (es : List ℕ) (ws : List Term) (t : Term) (left : ℕ) → OccursStep x bs es ws t left (occurs_check x bs es ws t (suc left))
occurs_step x bs es ws t left = go (node_at x bs es t) refl ws refl
  where
    S : Type 0
    S = OccursStep x bs es ws t left (occurs_check x bs es ws t (suc left))

    room : (ds : List ℕ) (a b : Term) → node_at x bs es t ≡ below ds a b → (r : Bool) → ltb (length ws) (most waiting) ≡ r → S
    room ds a b q true e = goes_down ds a b q e (rw (q, e))
    room ds a b q false e = is_full ds a b q e (rw (q, e))

    go : (n : Node) → node_at x bs es t ≡ n → (us : List Term) → ws ≡ us → S
    go sought q us e = is_hit q (rw q)
    go passed q [] e = is_last q e (rw (q, e))
    go passed q (v ∷ vs) e = goes_further v vs q e (rw (q, e))
    go (below ds a b) q us e = room ds a b q (ltb (length ws) (most waiting)) refl

pub occurs_spent : (x : ℕ) (bs : Substitution) (left : ℕ) (es : List ℕ) (ws : List Term) (t : Term) → Spent left left (occurs_check x bs es ws t left)
occurs_spent x bs zero es ws t = refl
occurs_spent x bs (suc left) es ws t = go (occurs_check x bs es ws t (suc left)) (occurs_step x bs es ws t left) (occurs_spent x bs left)
  where
    go : (o : Outcome Bool) → OccursStep x bs es ws t left o → ((es : List ℕ) (ws : List Term) (t : Term) → Spent left left (occurs_check x bs es ws t left)) → Spent (suc left) (suc left) o
    go o (is_hit q e) ih = rw e (omega arith)
    go o (is_full ds a b q l e) ih = rw e (omega arith)
    go o (goes_down ds a b q l e) ih = rw e (spent_up left left (suc left) (suc left) (occurs_check x bs ds (b ∷ ws) a left) (omega arith) (omega arith) (ih ds (b ∷ ws) a))
    go o (is_last q n e) ih = rw e (omega arith)
    go o (goes_further v vs q n e) ih = rw e (spent_up left left (suc left) (suc left) (occurs_check x bs es vs v left) (omega arith) (omega arith) (ih es vs v))

node_more : (d : ℕ) (n : Node) (es : List ℕ) (ws : List Term) (left left' : ℕ) (go go' : Checks) → left' ≡ left + d →
    ((es : List ℕ) (vs : List Term) (v : Term) → More d (go es vs v) (go' es vs v)) → More d (occurs_node n es ws left go) (occurs_node n es ws left' go')
node_more d sought es ws left left' go go' e f = more_done d true left left' e
node_more d passed es [] left left' go go' e f = more_done d false left left' e
node_more d passed es (v ∷ vs) left left' go go' e f = f es vs v
node_more d (below ds a b) es ws left left' go go' e f = room (ltb (length ws) 512)
  where
    room : (r : Bool) → More d (choose r (λ _. go ds (b ∷ ws) a) (λ _. stop (at_bound waiting) (suc left))) (choose r (λ _. go' ds (b ∷ ws) a) (λ _. stop (at_bound waiting) (suc left')))
    room true = f ds (b ∷ ws) a
    room false = more_bound d waiting (suc left) (suc left') (omega arith)

pub occurs_more : (d x : ℕ) (bs : Substitution) (left left' : ℕ) (es : List ℕ) (ws : List Term) (t : Term) → left' ≡ left + d → More d (occurs_check x bs es ws t left) (occurs_check x bs es ws t left')
occurs_more d x bs zero left' es ws t e = tt
occurs_more d x bs (suc left) zero es ws t e = absurd (omega arith)
occurs_more d x bs (suc left) (suc left') es ws t e = node_more d (node_at x bs es t) es ws left left' _ _ (omega arith) (λ es vs v. occurs_more d x bs left left' es vs v (omega arith))

-- What a node says

-- a way that ends in a pair ends at a variable that is bound to it
last_pair : (n : ℕ) (bs : Substitution) (y : ℕ) (a b : Term) → walk_for n bs (var y) ≡ pair a b → lookup bs (last_variable n bs y) ≡ some (pair a b)
last_pair zero bs y a b e = clash (cc)
last_pair (suc n) bs y a b e = go (lookup bs y) refl (last_pair n bs)
  where
    go : (o : Option Term) → lookup bs y ≡ o → ((y : ℕ) (a b : Term) → walk_for n bs (var y) ≡ pair a b → lookup bs (last_variable n bs y) ≡ some (pair a b)) → lookup bs (last_variable (suc n) bs y) ≡ some (pair a b)
    go none q ih = let z : var y ≡ pair a b = rw q at e in clash (cc)
    go (some (var w)) q ih = rw q (ih w a b (rw q at e))
    go (some (atom c)) q ih = let z : walk_for n bs (atom c) ≡ pair a b = rw q at e in clash (cc (followed_follow n bs (atom c) tt))
    go (some (pair c d)) q ih = let z : walk_for n bs (pair c d) ≡ pair a b = rw q at e in rw q (q ∙ ap some (sym (followed_follow n bs (pair c d) tt) ∙ z))

pub way_pair : (bs : Substitution) (t : Term) (z : ℕ) (a b : Term) → way_end bs t ≡ some z → walk bs t ≡ pair a b → lookup bs z ≡ some (pair a b)
way_pair bs (var y) z a b q e = let w : last_variable (length bs) bs y ≡ z = cc in rw w at (last_pair (length bs) bs y a b e)
way_pair bs (atom c) z a b q e = clash (cc)
way_pair bs (pair c d) z a b q e = clash (cc)

module _ (x : ℕ) (bs : Substitution) where
  -- what each case of a node tells of the term
  pub data NodeView (es : List ℕ) (t : Term) : Node → Type 0 where
    is_sought : walk bs t ≡ var x → NodeView es t sought
    is_leaf : is_var x (walk bs t) ≡ false → Leaf (walk bs t) → NodeView es t passed
    is_entered : (z : ℕ) (a b : Term) → way_end bs t ≡ some z → walk bs t ≡ pair a b → member z es ≡ true → NodeView es t passed
    is_new : (a b : Term) → walk bs t ≡ pair a b → was_entered (way_end bs t) es ≡ false → NodeView es t (below (enter (way_end bs t) es) a b)

  pub node_view : (es : List ℕ) (t : Term) → NodeView es t (node_at x bs es t)
  node_view es t = go (walk bs t) refl
    where
      open_var : (y : ℕ) → walk bs t ≡ var y → (c : Bool) → eqb x y ≡ c → NodeView es t (node_at x bs es t)
      open_var y e true i = rw (e, i) (is_sought (e ∙ ap var (sym (eqb-true x y i))))
      open_var y e false i = rw (e, i) (is_leaf (rw e i) (rw e tt))

      way_entered : (w : Option ℕ) → was_entered w es ≡ true → (z : ℕ) × (w ≡ some z) × (member z es ≡ true)
      way_entered none i = clash (cc)
      way_entered (some z) i = (z, refl, i)

      at_pair : (a b : Term) → walk bs t ≡ pair a b → (w : Bool) → was_entered (way_end bs t) es ≡ w → NodeView es t (node_at x bs es t)
      at_pair a b e true i = let (z, j, k) = way_entered (way_end bs t) i in rw (e, i) (is_entered z a b j e k)
      at_pair a b e false i = rw (e, i) (is_new a b e i)

      go : (f : Term) → walk bs t ≡ f → NodeView es t (node_at x bs es t)
      go (var y) e = open_var y e (eqb x y) refl
      go (atom a) e = rw e (is_leaf (rw e) (rw e tt))
      go (pair a b) e = at_pair a b e (was_entered (way_end bs t) es) refl

  node_sought : (es : List ℕ) (t : Term) → node_at x bs es t ≡ sought → walk bs t ≡ var x
  node_sought es t q = go (node_at x bs es t) q (node_view es t)
    where
      go : (n : Node) → n ≡ sought → NodeView es t n → walk bs t ≡ var x
      go n q (is_sought e) = e
      go n q (is_leaf e l) = clash (cc)
      go n q (is_entered z a b w e i) = clash (cc)
      go n q (is_new a b e i) = clash (cc)

  -- a pair whose parts are looked at, with the variable at its way's end entered now
  pub record Below (es : List ℕ) (t : Term) (ds : List ℕ) (a b : Term) : Type 0 where
    pub is_pair : walk bs t ≡ pair a b
    pub entered : enter (way_end bs t) es ≡ ds
    pub is_first : was_entered (way_end bs t) es ≡ false

  pub node_below : (es : List ℕ) (t : Term) (ds : List ℕ) (a b : Term) → node_at x bs es t ≡ below ds a b → Below es t ds a b
  node_below es t ds a b q = go (node_at x bs es t) q (node_view es t)
    where
      go : (n : Node) → n ≡ below ds a b → NodeView es t n → Below es t ds a b
      go n q (is_sought e) = clash (cc)
      go n q (is_leaf e l) = clash (cc)
      go n q (is_entered z c d w e i) = clash (cc)
      go n q (is_new c d e i) = record { is_pair = cc; entered = cc; is_first = i }

  -- The check came to its end and found nothing: with all the variables that it entered, each node that it came to is clear.

  -- t is not x, and no node below it is, but for what is below the variables of the list
  data Clear (all : List ℕ) : Term → Type 0 where
    leaf_clear : {t : Term} → is_var x (walk bs t) ≡ false → Leaf (walk bs t) → Clear all t
    entered_clear : {t : Term} (z : ℕ) (a b : Term) → way_end bs t ≡ some z → walk bs t ≡ pair a b → member z all ≡ true → Clear all t
    parts_clear : {t : Term} (a b : Term) → walk bs t ≡ pair a b → Clear all a → Clear all b → Clear all t

  -- what is below a variable is clear
  record Explored (all : List ℕ) (z : ℕ) : Type 0 where
    first : Term
    second : Term
    bound_to : lookup bs z ≡ some (pair first second)
    first_clear : Clear all first
    second_clear : Clear all second

  record Cleared (es : List ℕ) (ws : List Term) (t : Term) : Type 0 where
    all : List ℕ
    more : (z : ℕ) → member z es ≡ true → member z all ≡ true
    here : Clear all t
    rest : Each (Clear all) ws
    explored : (z : ℕ) → member z all ≡ true → (member z es ≡ true) ⊎ Explored all z

  passed_clear : (es all : List ℕ) (t : Term) → ((z : ℕ) → member z es ≡ true → member z all ≡ true) → node_at x bs es t ≡ passed → Clear all t
  passed_clear es all t more q = go (node_at x bs es t) q (node_view es t)
    where
      go : (n : Node) → n ≡ passed → NodeView es t n → Clear all t
      go n q (is_sought e) = clash (cc)
      go n q (is_leaf e l) = leaf_clear e l
      go n q (is_entered z a b w e i) = entered_clear z a b w e (more z i)
      go n q (is_new a b e i) = clash (cc)

  below_clear : (es ds : List ℕ) (ws : List Term) (t a b : Term) → Below es t ds a b → Cleared ds (b ∷ ws) a → Cleared es ws t
  below_clear es ds ws t a b k h = record {
    all = h.all;
    more = λ z m. h.more z (rw k.entered at (enters_more (way_end bs t) z m));
    here = parts_clear a b k.is_pair h.here h.rest.0;
    rest = h.rest.1;
    explored = λ z m. ⊎_elim
        (λ i. ⊎_elim (λ w. inr (record { first = a; second = b; bound_to = way_pair bs t z a b w k.is_pair; first_clear = h.here; second_clear = h.rest.0 })) inl (entered_by (way_end bs t) z (rw (sym k.entered) at i)))
        inr (h.explored z m);
  }
    where
      enters_more : (w : Option ℕ) (z : ℕ) → member z es ≡ true → member z (enter w es) ≡ true
      enters_more none z i = i
      enters_more (some y) z i = rw i (or_right (eqb z y))

      entered_by : (w : Option ℕ) (z : ℕ) → member z (enter w es) ≡ true → (w ≡ some z) ⊎ (member z es ≡ true)
      entered_by none z i = inr i
      entered_by (some y) z i = ⊎_elim (λ e. inl (ap some (sym (eqb-true z y e)))) inr (one_of (eqb z y) (member z es) i)

  cleared : (left : ℕ) (es : List ℕ) (ws : List Term) (t : Term) (l : ℕ) → occurs_check x bs es ws t left ≡ done false l → Cleared es ws t
  cleared zero es ws t l e = clash (cc)
  cleared (suc left) es ws t l e = go (occurs_step x bs es ws t left) (cleared left)
    where
      go : OccursStep x bs es ws t left (occurs_check x bs es ws t (suc left)) → ((es : List ℕ) (ws : List Term) (t : Term) (l : ℕ) → occurs_check x bs es ws t left ≡ done false l → Cleared es ws t) → Cleared es ws t
      go (is_hit q r) ih = clash (cc)
      go (is_full ds a b q o r) ih = clash (cc)
      go (goes_down ds a b q o r) ih = below_clear es ds ws t a b (node_below es t ds a b q) (ih ds (b ∷ ws) a l (sym r ∙ e))
      go (is_last q n r) ih = rw n (record { all = es; more = λ z m. m; here = passed_clear es es t (λ z m. m) q; rest = tt; explored = λ z m. inl m })
      go (goes_further v vs q n r) ih =
          let h = ih es vs v l (sym r ∙ e) in
          rw n (record { all = h.all; more = h.more; here = passed_clear es h.all t h.more q; rest = (h.here, h.rest); explored = h.explored })

  clear_none : (all : List ℕ) → ((z : ℕ) → member z all ≡ true → Explored all z) → (plenty : ℕ) (t : Term) → Clear all t → passes plenty (is_var x) bs t ≡ false
  clear_none all inner zero t c = refl
  clear_none all inner (suc plenty) t c = go c (clear_none all inner plenty)
    where
      both : (a b : Term) → walk bs t ≡ pair a b → passes plenty (is_var x) bs a ≡ false → passes plenty (is_var x) bs b ≡ false → passes (suc plenty) (is_var x) bs t ≡ false
      both a b e p q = node_parts (is_var x) (walk bs t) a b _ e (rw e refl) ∙ ap₂ ◌||◌ p q

      go : Clear all t → ((t : Term) → Clear all t → passes plenty (is_var x) bs t ≡ false) → passes (suc plenty) (is_var x) bs t ≡ false
      go (leaf_clear e l) ih = node_leaf (is_var x) (walk bs t) _ l e
      go (entered_clear z a b w e i) ih =
          let h = inner z i in let p : some (pair a b) ≡ some (pair h.first h.second) = sym (way_pair bs t z a b w e) ∙ h.bound_to in
          both h.first h.second (cc) (ih h.first h.first_clear) (ih h.second h.second_clear)
      go (parts_clear a b e c d) ih = both a b e (ih a c) (ih b d)

  -- It found x.

  abbrev any_passes : ℕ → List Term → Bool
  any_passes plenty [] = false
  any_passes plenty (w ∷ ws) = passes plenty (is_var x) bs w || any_passes plenty ws

  passes_more : (plenty : ℕ) (t : Term) → passes plenty (is_var x) bs t ≡ true → passes (suc plenty) (is_var x) bs t ≡ true
  passes_more zero t e = clash (cc)
  passes_more (suc plenty) t e = go (walk bs t) refl (passes_more plenty)
    where
      either : (a b a' b' : Bool) → (a ≡ true → a' ≡ true) → (b ≡ true → b' ≡ true) → (a || b) ≡ true → (a' || b') ≡ true
      either a b a' b' f g e = ⊎_elim (λ p. rw (f p) refl) (λ p. rw (g p) (or_right a')) (one_of a b e)

      go : (f : Term) → walk bs t ≡ f → ((t : Term) → passes plenty (is_var x) bs t ≡ true → passes (suc plenty) (is_var x) bs t ≡ true) → passes (suc (suc plenty)) (is_var x) bs t ≡ true
      go (var y) q ih = rw q (rw q at e)
      go (atom a) q ih = clash (cc (rw q at e))
      go (pair a b) q ih = rw q (either (passes plenty (is_var x) bs a) (passes plenty (is_var x) bs b) (passes (suc plenty) (is_var x) bs a) (passes (suc plenty) (is_var x) bs b) (ih a) (ih b) (rw q at e))

  any_more : (plenty : ℕ) (ws : List Term) → any_passes plenty ws ≡ true → any_passes (suc plenty) ws ≡ true
  any_more plenty [] e = e
  any_more plenty (w ∷ ws) e = ⊎_elim (λ p. rw (passes_more plenty w p) refl) (λ p. rw (any_more plenty ws p) (or_right (passes (suc plenty) (is_var x) bs w))) (one_of (passes plenty (is_var x) bs w) (any_passes plenty ws) e)

  abbrev Finds : ℕ → Type 0
  Finds left = (plenty : ℕ) → left ≤ plenty → (es : List ℕ) (ws : List Term) (t : Term) (l : ℕ) → occurs_check x bs es ws t left ≡ done true l → (passes plenty (is_var x) bs t || any_passes plenty ws) ≡ true

  finds : (left : ℕ) → Finds left
  finds zero plenty i es ws t l e = clash (cc)
  finds (suc left) zero i es ws t l e = absurd (omega arith)
  finds (suc left) (suc plenty) i es ws t l e = go (occurs_step x bs es ws t left) (finds left)
    where
      at_x : walk bs t ≡ var x → passes (suc plenty) (is_var x) bs t ≡ true
      at_x q = rw q (eq-eqb x x refl)

      in_parts : (a b : Term) → walk bs t ≡ pair a b → (passes plenty (is_var x) bs a || (passes plenty (is_var x) bs b || any_passes plenty ws)) ≡ true → (passes (suc plenty) (is_var x) bs t || any_passes (suc plenty) ws) ≡ true
      in_parts a b q h =
          let p = node_parts (is_var x) (walk bs t) a b (λ u. passes plenty (is_var x) bs u) q (rw q refl) in
          ⊎_elim (λ k. ap (λ c. c || any_passes (suc plenty) ws) (p ∙ k)) (λ k. ap (λ c. passes (suc plenty) (is_var x) bs t || c) (any_more plenty ws k) ∙ or_right (passes (suc plenty) (is_var x) bs t))
          (one_of (passes plenty (is_var x) bs a || passes plenty (is_var x) bs b) (any_passes plenty ws) (or_assoc (passes plenty (is_var x) bs a) (passes plenty (is_var x) bs b) (any_passes plenty ws) ∙ h))

      go : OccursStep x bs es ws t left (occurs_check x bs es ws t (suc left)) → Finds left → (passes (suc plenty) (is_var x) bs t || any_passes (suc plenty) ws) ≡ true
      go (is_hit q r) ih = rw (at_x (node_sought es t q)) refl
      go (is_full ds a b q o r) ih = clash (cc)
      go (goes_down ds a b q o r) ih = in_parts a b (node_below es t ds a b q).is_pair (ih plenty (omega arith) ds (b ∷ ws) a l (sym r ∙ e))
      go (is_last q n r) ih = clash (cc)
      go (goes_further v vs q n r) ih = rw n (ap (λ c. passes (suc plenty) (is_var x) bs t || c) (ih (suc plenty) (omega arith) es vs v l (sym r ∙ e)) ∙ or_right (passes (suc plenty) (is_var x) bs t))

  -- where it comes to an end, it says what the check without steps says, which enters a bound variable each time
  pub occurs_passes : (plenty left : ℕ) → left ≤ plenty → (t : Term) (b : Bool) (l : ℕ) → occurs_check x bs [] [] t left ≡ done b l → passes plenty (is_var x) bs t ≡ b
  occurs_passes plenty left i t true l e = sym (or-false _) ∙ finds left plenty i [] [] t l e
  occurs_passes plenty left i t false l e = let h = cleared left [] [] t l e in clear_none h.all (λ z m. ⊎_elim (λ k. clash (cc)) (λ k. k) (h.explored z m)) plenty t h.here

  -- x is a node of the resolved term
  pub occurs_alone : Good bs → (t : Term) (left : ℕ) (b : Bool) (l : ℕ) → occurs_check x bs [] [] t left ≡ done b l → b ≡ some_node (is_var x) (resolve bs t)
  occurs_alone good t left b l e =
      sym (occurs_passes (suc (size bs t) + left) left (omega arith) t b l e) ∙ passes_resolved (is_var x) (is_var_heads x) bs good (suc (size bs t) + left) t (omega arith)
