-- What `scan` finds: a node of the resolved term, or of a resolved term that waits, passes the test.
use Prim.Native.Nat.{◌+◌, ◌<◌, suc, zero, ℕ}
use mathlib.Core.Bool.{Bool, ◌||◌, false, or_assoc, or-false, true}
use mathlib.Core.List.{List, [], ◌∷◌}
use mathlib.Core.Path.{◌∙◌, ◌≡◌, ap, ap₂, refl, subst, sym}
use native.Mathlib.Omega.{arith}
use lib.Dec.{ltb}
use lib.ListN.{length}
use Rattle.rules.specs.Reading.{choose}
use Rattle.rules.specs.Syntax.{Atom, Term, atom, pair, var}
use Rattle.semantics.specs.Invariant.{Good, some_node}
use Rattle.semantics.specs.Published.{node_passes, passes}
use Rattle.semantics.specs.Steps.{Outcome, at_bound, done, most, stop, waiting}
use Rattle.semantics.specs.Substitution.{Substitution, resolve, walk}
use Rattle.semantics.specs.Unify.{is_atom, is_var, scan, scan_next, scan_parts}
use Rattle.semantics.proofs.Basics.{clash}
use Rattle.semantics.proofs.StepLaws.{More, Spent, more_bound, more_done, spent_up}
use Rattle.semantics.proofs.SubstitutionLaws.{Seen, size, size_pair, walk_seen}

abbrev pub Leaf : Term → Type 0
Leaf (var x) = Unit {0}
Leaf (atom a) = Unit {0}
Leaf (pair s t) = ⊥

-- what one step of `scan` comes to
pub data ScanStep (test : Term → Bool) (bs : Substitution) (ws : List Term) (t : Term) (left : ℕ) (o : Outcome Bool) : Type 0 where
  hit : test (walk bs t) ≡ true → o ≡ done true left → ScanStep test bs ws t left o
  down : (a b : Term) → test (walk bs t) ≡ false → walk bs t ≡ pair a b → ltb (length ws) (most waiting) ≡ true → o ≡ scan test bs (b ∷ ws) a left → ScanStep test bs ws t left o
  full : (a b : Term) → test (walk bs t) ≡ false → walk bs t ≡ pair a b → ltb (length ws) (most waiting) ≡ false → o ≡ stop (at_bound waiting) (suc left) → ScanStep test bs ws t left o
  last : test (walk bs t) ≡ false → Leaf (walk bs t) → ws ≡ [] → o ≡ done false left → ScanStep test bs ws t left o
  further : (v : Term) (vs : List Term) → test (walk bs t) ≡ false → Leaf (walk bs t) → ws ≡ v ∷ vs → o ≡ scan test bs vs v left → ScanStep test bs ws t left o

leaf_step : (test : Term → Bool) (bs : Substitution) (ws : List Term) (t : Term) (left : ℕ) (o : Outcome Bool) → test (walk bs t) ≡ false → Leaf (walk bs t) →
    o ≡ scan_next ws left (λ vs v. scan test bs vs v left) → ScanStep test bs ws t left o
leaf_step test bs [] t left o q l e = last q l refl e
leaf_step test bs (v ∷ vs) t left o q l e = further v vs q l refl e

pub scan_step : (test : Term → Bool) (bs : Substitution) (ws : List Term) (t : Term) (left : ℕ) → ScanStep test bs ws t left (scan test bs ws t (suc left))
scan_step test bs ws t left = go (test (walk bs t)) refl (walk bs t) refl
  where
    S : Type 0
    S = ScanStep test bs ws t left (scan test bs ws t (suc left))

    split : (a b : Term) → test (walk bs t) ≡ false → walk bs t ≡ pair a b → (l : Bool) → ltb (length ws) (most waiting) ≡ l → S
    split a b q r true e = down a b q r e (rw (q, r, e))
    split a b q r false e = full a b q r e (rw (q, r, e))

    go : (p : Bool) → test (walk bs t) ≡ p → (f : Term) → walk bs t ≡ f → S
    go true q f r = hit q (rw q)
    go false q (pair a b) r = split a b q r (ltb (length ws) (most waiting)) refl
    go false q (var x) r = leaf_step test bs ws t left (scan test bs ws t (suc left)) q (rw r tt) (rw (q, r))
    go false q (atom a) r = leaf_step test bs ws t left (scan test bs ws t (suc left)) q (rw r tt) (rw (q, r))

pub scan_spent : (test : Term → Bool) (bs : Substitution) (left : ℕ) (ws : List Term) (t : Term) → Spent left left (scan test bs ws t left)
scan_spent test bs zero ws t = refl
scan_spent test bs (suc left) ws t = go (scan test bs ws t (suc left)) (scan_step test bs ws t left) (scan_spent test bs left)
  where
    go : (o : Outcome Bool) → ScanStep test bs ws t left o → ((ws : List Term) (t : Term) → Spent left left (scan test bs ws t left)) → Spent (suc left) (suc left) o
    go o (hit q e) ih = rw e (omega arith)
    go o (full a b q r l e) ih = rw e (omega arith)
    go o (down a b q r l e) ih = rw e (spent_up left left (suc left) (suc left) (scan test bs (b ∷ ws) a left) (omega arith) (omega arith) (ih (b ∷ ws) a))
    go o (last q l n e) ih = rw e (omega arith)
    go o (further v vs q l n e) ih = rw e (spent_up left left (suc left) (suc left) (scan test bs vs v left) (omega arith) (omega arith) (ih vs v))

parts_more : (d : ℕ) (f : Term) (ws : List Term) (left left' : ℕ) (go go' : List Term → Term → Outcome Bool) → left' ≡ left + d →
    ((vs : List Term) (v : Term) → More d (go vs v) (go' vs v)) → More d (scan_parts f ws left go) (scan_parts f ws left' go')
parts_more d (pair a b) ws left left' go go' e f = room (ltb (length ws) 512)
  where
    room : (r : Bool) → More d (choose r (λ _. go (b ∷ ws) a) (λ _. stop (at_bound waiting) (suc left))) (choose r (λ _. go' (b ∷ ws) a) (λ _. stop (at_bound waiting) (suc left')))
    room true = f (b ∷ ws) a
    room false = more_bound d waiting (suc left) (suc left') (omega arith)
parts_more d (atom a) [] left left' go go' e f = more_done d false left left' e
parts_more d (atom a) (v ∷ vs) left left' go go' e f = f vs v
parts_more d (var x) [] left left' go go' e f = more_done d false left left' e
parts_more d (var x) (v ∷ vs) left left' go go' e f = f vs v

pub scan_more : (d : ℕ) (test : Term → Bool) (bs : Substitution) (left left' : ℕ) (ws : List Term) (t : Term) → left' ≡ left + d → More d (scan test bs ws t left) (scan test bs ws t left')
scan_more d test bs zero left' ws t e = tt
scan_more d test bs (suc left) zero ws t e = absurd (omega arith)
scan_more d test bs (suc left) (suc left') ws t e = go (test (walk bs t)) (λ vs v. scan_more d test bs left left' vs v (omega arith))
  where
    go : (b : Bool) → ((vs : List Term) (v : Term) → More d (scan test bs vs v left) (scan test bs vs v left')) →
        More d (choose b (λ _. done true left) (λ _. scan_parts (walk bs t) ws left (λ vs v. scan test bs vs v left))) (choose b (λ _. done true left') (λ _. scan_parts (walk bs t) ws left' (λ vs v. scan test bs vs v left')))
    go true ih = more_done d true left left' (omega arith)
    go false ih = parts_more d (walk bs t) ws left left' (λ vs v. scan test bs vs v left) (λ vs v. scan test bs vs v left') (omega arith) ih

-- the test does not look into a pair
abbrev pub Heads : (Term → Bool) → Type 0
Heads test = (a b c d : Term) → test (pair a b) ≡ test (pair c d)

pub is_var_heads : (x : ℕ) → Heads (is_var x)
is_var_heads x a b c d = refl

pub is_atom_heads : (a : Atom) → Heads (is_atom a)
is_atom_heads e a b c d = refl

abbrev pub some_waiting : (Term → Bool) → Substitution → List Term → Bool
some_waiting test bs [] = false
some_waiting test bs (w ∷ ws) = some_node test (resolve bs w) || some_waiting test bs ws

module _ (test : Term → Bool) (heads : Heads test) (bs : Substitution) where
  abbrev some_part : Term → Bool
  some_part (var x) = false
  some_part (atom a) = false
  some_part (pair a b) = some_node test (resolve bs a) || some_node test (resolve bs b)

  leaf_part : (f : Term) → Leaf f → some_part f ≡ false
  leaf_part (var x) l = refl
  leaf_part (atom a) l = refl
  leaf_part (pair a b) l = absurd l

  node_head : (r f : Term) → Seen bs r f → some_node test r ≡ (test f || some_part f)
  node_head r (var x) h = ap (some_node test) h.1 ∙ sym (or-false (test (var x)))
  node_head r (atom a) h = ap (some_node test) h ∙ sym (or-false (test (atom a)))
  node_head r (pair a b) h = ap (some_node test) h ∙ ap (λ p. p || some_part (pair a b)) (heads _ _ _ _)

  abbrev Finds : ℕ → Type 0
  Finds left = (ws : List Term) (t : Term) (b : Bool) (left' : ℕ) → scan test bs ws t left ≡ done b left' → b ≡ (some_node test (resolve bs t) || some_waiting test bs ws)

  -- the outcome of a scan is whether some node passes
  pub scan_ok : Good bs → (left : ℕ) → Finds left
  scan_ok good zero ws t b left' e = clash (cc)
  scan_ok good (suc left) ws t b left' e = go (scan_step test bs ws t left) (node_head (resolve bs t) (walk bs t) (walk_seen bs good t)) (scan_ok good left)
    where
      go : ScanStep test bs ws t left (scan test bs ws t (suc left)) → some_node test (resolve bs t) ≡ (test (walk bs t) || some_part (walk bs t)) → Finds left →
          b ≡ (some_node test (resolve bs t) || some_waiting test bs ws)
      go (hit q r) n ih = rw (n, q) (cc)
      go (full a c q f l r) n ih = clash (cc)
      go (down a c q f l r) n ih = rw (n, q, f) (ih (c ∷ ws) a b left' (sym r ∙ e) ∙ sym (or_assoc (some_node test (resolve bs a)) (some_node test (resolve bs c)) (some_waiting test bs ws)))
      go (last q l m r) n ih = rw (n, q, leaf_part (walk bs t) l, m) (cc)
      go (further v vs q l m r) n ih = rw (n, q, leaf_part (walk bs t) l, m) (ih vs v b left' (sym r ∙ e))

  -- a term by itself
  pub scan_alone : Good bs → (t : Term) (left : ℕ) (b : Bool) (left' : ℕ) → scan test bs [] t left ≡ done b left' → b ≡ some_node test (resolve bs t)
  scan_alone good t left b left' e = scan_ok good left [] t b left' e ∙ or-false _

-- Without steps: the published traversal

pub node_hit : (test : Term → Bool) (f : Term) (go : Term → Bool) → test f ≡ true → node_passes test f go ≡ true
node_hit test (var x) go e = e
node_hit test (atom a) go e = e
node_hit test (pair s t) go e = rw e

pub node_leaf : (test : Term → Bool) (f : Term) (go : Term → Bool) → Leaf f → test f ≡ false → node_passes test f go ≡ false
node_leaf test (var x) go l e = e
node_leaf test (atom a) go l e = e
node_leaf test (pair s t) go l e = absurd l

pub node_parts : (test : Term → Bool) (f a b : Term) (go : Term → Bool) → f ≡ pair a b → test f ≡ false → node_passes test f go ≡ (go a || go b)
node_parts test f a b go q e = ap (λ (z : Term). node_passes test z go) q ∙ ap (λ (c : Bool). c || (go a || go b)) (ap test (sym q) ∙ e)

-- deep enough, it says whether a node of the resolved term passes
pub passes_resolved : (test : Term → Bool) → Heads test → (bs : Substitution) → Good bs → (plenty : ℕ) (t : Term) → size bs t < plenty → passes plenty test bs t ≡ some_node test (resolve bs t)
passes_resolved test heads bs good zero t h = absurd (omega arith)
passes_resolved test heads bs good (suc plenty) t h = go (walk bs t) refl (passes_resolved test heads bs good plenty)
  where
    go : (f : Term) → walk bs t ≡ f → ((t : Term) → size bs t < plenty → passes plenty test bs t ≡ some_node test (resolve bs t)) → passes (suc plenty) test bs t ≡ some_node test (resolve bs t)
    go (var x) e ih = rw e (sym (ap (some_node test) (subst (Seen bs (resolve bs t)) e (walk_seen bs good t)).1))
    go (atom a) e ih = rw e (sym (ap (some_node test) (subst (Seen bs (resolve bs t)) e (walk_seen bs good t))))
    go (pair a b) e ih =
        let n = size_pair bs good t a b e in
        rw e (ap₂ ◌||◌ (heads a b (resolve bs a) (resolve bs b)) (ap₂ ◌||◌ (ih a (omega arith)) (ih b (omega arith))) ∙ sym (ap (some_node test) (subst (Seen bs (resolve bs t)) e (walk_seen bs good t))))
