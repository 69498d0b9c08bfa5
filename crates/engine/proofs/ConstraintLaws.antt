-- The lines of constraints, in the shape of the code's tests: a trial's, those of a term that was looked through, and of all constraints kept.
use Prim.Native.Nat.{ℕ, suc, ◌+◌, ◌-◌, ◌≤◌, ◌<◌}
use mathlib.Core.Path.{◌≡◌, refl, sym, ap, subst, ◌∙◌}
use mathlib.Core.Bool.{Bool, true, false}
use mathlib.Core.Option.{some}
use mathlib.Core.List.{List, [], ◌∷◌, ◌++◌, reverse, append_assoc, append-nil}
use native.Mathlib.Omega.{arith}
use lib.ListN.{length, length-append, length-reverse}
use Rattle.std.specs.Prelude.{Result, Ok, Err}
use Rattle.rules.specs.Lists.{Each}
use Rattle.rules.specs.Syntax.{Atom, Term, var, atom, pair, Sort, Constraint, differ, absento}
use Rattle.rules.specs.Written.{sort_kind}
use Rattle.rules.specs.Settings.{scratch_words}
use Rattle.semantics.specs.Substitution.{Substitution, resolve, walk}
use Rattle.semantics.specs.Steps.{Outcome, done, stop, and_then}
use Rattle.semantics.specs.Unify.{scan, never, unify_terms}
use Rattle.semantics.specs.Answer.{appear, Line, not_all, resolve_right, look_through, trial_lines, typed_lines, lacks_each, lines_of, all_lines}
use Rattle.semantics.specs.Invariant.{Good, Passes, Sound}
use Rattle.semantics.proofs.Basics.{clash}
use Rattle.semantics.proofs.SubstitutionLaws.{Seen, walk_seen}
use Rattle.semantics.proofs.UnifyLaws.{unify_some, no_news}
use Rattle.engine.specs.Reference.{at, pos_of, KeepsAt}
use Rattle.engine.specs.Memory.{BindingsIn, KeptIn}
use Rattle.engine.specs.Walk.{PartRead, Binds, Follows}
use Rattle.engine.specs.Trail.{Trailed, Undone, Apart}
use Rattle.engine.specs.Unify.{Went, UnifiedAs}
use Rattle.engine.specs.Trial.{AllKept}
use Rattle.engine.specs.Steps.{stops, outcome_of}
use Rattle.engine.specs.Look.{LookedThroughAs, Looks, rights, ThroughAs}
use Rattle.engine.specs.Line.{EquationsIn, LineAs, as_differ}
use Rattle.engine.specs.Term.{Touched}
use Rattle.engine.specs.Lines.{AnswerSoFar, add_lines, Writing, Extended, occurrences, AddsAbsent, AddsTyped}
use Rattle.engine.specs.Constraint.{added_says, AddedAs, Differs, Lists}
use Rattle.engine.specs.Review.{ConstraintsHeld}
use Rattle.engine.specs.declared.writer.line.Listed.TheVariants.{Differ}
use Rattle.engine.specs.declared.steps.Stopped.{Stopped}
use Rattle.engine.specs.declared.terms.unify.Unified.{Unified}
use Rattle.engine.proofs.ReferenceLaws.{atom_word_is}
use Rattle.engine.proofs.FrameLaws.{kept_same}
use Rattle.engine.proofs.TrailLaws.{fresh_few, apart_same, apart_trans, undone_apart}
use Rattle.engine.proofs.NameLaws.{given_apart}
use Rattle.engine.proofs.TermLaws.{room_same}
use Rattle.engine.proofs.LinesLaws.{add_append}
use Rattle.engine.proofs.WriterLaws.{absent_once, trial_new, equations_kept}
use Rattle.engine.proofs.ReviewSteps.{absento_term, absento_tag, DifferAt, trial, kept_again}

-- a trial leaves the answer under way as it is
abbrev pub writing_apart : {s s' out : List ℕ} {first end place : ℕ} → Apart s s' → Writing s out first end place → Writing s' out first end place
writing_apart p g = record { before = g.before; begin = g.begin; head = g.head; lines = g.lines; names = g.names; page = g.page; given = given_apart p g.given; room = g.room }

-- the page of lines that are done
page_done : {o out : List ℕ} {begin first end place rest : ℕ} {head : List ℕ} {lines : List (List ℕ)} → AnswerSoFar o out begin first end place head lines → (next left : ℕ) → ◌≡◌ {A = Result (ℕ × ℕ) Stopped} (Ok (place, rest)) (Ok (next, left)) → AnswerSoFar o out begin first end next head lines
page_done {o} {out} {begin} {first} {end} {place} {rest} {head} {lines} p next left e =
    let z : ◌≡◌ {A = ℕ × ℕ} (place, rest) (next, left) = cc in subst (λ n. AnswerSoFar o out begin first end n head lines) (ap (λ (q : ℕ × ℕ). q.0) z) p

-- A disequality

module _ {ws s : List ℕ} {bs : Substitution} {a : ℕ} {u : Term} {b : ℕ} {v : Term} {trail : ℕ} (steps : ℕ) (d : Differs ws s bs a u b v trail) (s₁ : List ℕ) (r : Unified) (told : UnifiedAs ws s s₁ bs (unify_terms bs u v steps) r) where
  pub trial_grown : trail ≤ r.trail
  trial_grown = omega (arith, d.meets.trail_is, told.0.trail_is, ap length told.0.grows, length-append told.0.new bs)

  -- what it bound, for taking back
  pub trial_trailed : (ws : List ℕ) × (new : Substitution) × (bs : Substitution) × Trailed ws s₁ new bs trail r.trail
  trial_trailed = let t = trial steps d.meets s₁ r told in (ws, t.new, bs, t.trailed)

  -- the trial did not succeed, and was undone
  module _ {out : List ℕ} {first end place : ℕ} (g : Writing s out first end place) (s₂ : List ℕ) (undone : (ws : List ℕ) (new bs : Substitution) → Trailed ws s₁ new bs trail r.trail → Undone ws s₁ s₂ bs) where
    given_back : (x : Result (ℕ × ℕ) Stopped) → and_then (unify_terms bs u v steps) (λ y l. trial_lines bs y l) ≡ added_says [] x → ((next left : ℕ) → x ≡ Ok (next, left) → Extended g out next [])
        → AddedAs ws s s₂ g out bs (lines_of bs (differ u v) steps) x
    given_back x y k =
        let t = trial steps d.meets s₁ r told in
        let z = undone ws t.new bs t.trailed in
        record { lines = []; says = y; page = k; bindings_in = z.bindings_in; apart = apart_trans told.0.apart (undone_apart z); touched = g.page.touched }

    pub differ_failed : {joined : Bool} {rest : ℕ} → r.outcome ≡ Ok (joined, rest) → joined ≡ false → AddedAs ws s s₂ g out bs (lines_of bs (differ u v) steps) (Ok (place, rest))
    unfolding add_lines
    differ_failed {rest = rest} e f = given_back (Ok (place, rest)) (rw (told.1, e, f)) (page_done g.page)

    pub differ_stopped : (e : Stopped) → r.outcome ≡ Err e → AddedAs ws s s₂ g out bs (lines_of bs (differ u v) steps) (Err e)
    differ_stopped e i = given_back (Err e) (rw (told.1, i)) (λ next left z. clash (cc))

-- The trial succeeded: its equations are kept, one at least.
pub record Tried (ws s s₂ : List ℕ) (bs : Substitution) (u v : Term) (trail n steps rest : ℕ) : Type 0 where
  pub new : Substitution
  pub joins : unify_terms bs u v steps ≡ done (some (new ++ bs)) rest
  pub looks : Looks ws s₂ bs (reverse new) trail (n - trail)
  pub some_new : 0 < length new
  pub apart : Apart s s₂

pub tried : {ws s : List ℕ} {bs : Substitution} {a : ℕ} {u : Term} {b : ℕ} {v : Term} {trail : ℕ} (steps : ℕ) (d : Differs ws s bs a u b v trail) (s₁ : List ℕ) (r : Unified) → UnifiedAs ws s s₁ bs (unify_terms bs u v steps) r
    → {joined : Bool} {rest : ℕ} → r.outcome ≡ Ok (joined, rest) → joined ≡ true → (s₂ : List ℕ) → ((ws : List ℕ) (new bs : Substitution) → Trailed ws s₁ new bs trail r.trail → AllKept ws s₁ s₂ new bs trail) → Tried ws s s₂ bs u v trail r.trail steps rest
tried {ws} {s} {bs} {a} {u} {b} {v} {trail} steps d s₁ r told {rest = rest} e f s₂ keep =
    let q : (w : Went ws s bs s₁ r.trail) × (unify_terms bs u v steps ≡ done (some w.next) rest) = (told.0, rw (e, f) at told.1) in
    let new : Substitution = q.0.new in
    let held : Binds ws s bs = d.meets.held in
    let long : scratch_words ≤ length s = held.long in
    let is_next : r.trail ≡ length q.0.next = q.0.trail_is in
    let is_long : length q.0.next ≡ length (new ++ bs) = ap length q.0.grows in
    let is_sum : length (new ++ bs) ≡ length new + length bs = length-append new bs in
    let is_trail : trail ≡ length bs = d.meets.trail_is in
    let few : length q.0.next ≤ 2048 = fresh_few q.0.next q.0.held.bindings_in.fresh in
    let more : ¬ (length q.0.next ≡ length bs) = λ z. d.unforced (no_news (unify_some 0 steps bs held.good u v steps q.0.next rest q.1) z) in
    let k = keep ws new bs (record { long = q.0.held.long; bindings_in = subst (BindingsIn ws s₁) q.0.grows q.0.held.bindings_in; mark_is = is_trail; trail_is = is_next ∙ is_long }) in
    let p : Apart s s₂ = apart_trans q.0.apart k.apart in
    let some_new : ¬ (length new ≡ 0) = λ z. more (omega arith) in
    record {
      new = new;
      joins = q.1 ∙ ap (λ z. done (some z) rest) q.0.grows;
      looks = record {
        held = record { short = held.short; long = omega (arith, p.long); bindings_in = k.bindings_in; good = held.good };
        kept = k.kept;
        count_is = omega (arith, length-reverse new);
        few = omega arith;
      };
      some_new = omega arith;
      apart = p;
    }

right_length : (bs : Substitution) (cs : List (ℕ × Term)) → length (resolve_right bs cs) ≡ length cs
right_length bs [] = refl
right_length bs (b ∷ cs) = ap suc (right_length bs cs)

equations_line : {ws s : List ℕ} {mark count : ℕ} (es : List (ℕ × Term)) → 0 < length es → EquationsIn ws s mark count es → LineAs ws s (Differ mark count) (not_all es)
equations_line [] l h = absurd (omega arith)
equations_line (b ∷ cs) l h = as_differ b cs h

module _ {ws s s₂ : List ℕ} {bs : Substitution} {u v : Term} {trail n steps rest : ℕ} (t : Tried ws s s₂ bs u v trail n steps rest) where
  pub tried_line_is : Line
  tried_line_is = not_all (resolve_right bs (reverse t.new))

  pub tried_line : LineAs ws s₂ (Differ trail (n - trail)) tried_line_is
  unfolding tried_line_is
  tried_line =
      let h = t.looks in
      let l : length (resolve_right bs (reverse t.new)) ≡ length (reverse t.new) = right_length bs (reverse t.new) in
      equations_line (resolve_right bs (reverse t.new)) (omega (arith, length-reverse t.new, t.some_new)) (record { here = equations_kept trail 0 (reverse t.new) h.held h.kept; count_is = h.count_is ∙ sym l; few = h.few })

  module _ {out : List ℕ} {first end place : ℕ} (g : Writing s out first end place) where
    kept_back : (r : Result ℕ Stopped) → ThroughAs bs (rights (reverse t.new)) rest r → {out' : List ℕ} (x : Result (ℕ × ℕ) Stopped) → and_then (outcome_of {A = Unit {0}} tt r) (λ _ l. done (tried_line_is ∷ []) l) ≡ added_says (tried_line_is ∷ []) x
        → ((next left : ℕ) → x ≡ Ok (next, left) → Extended g out' next (tried_line_is ∷ [])) → Touched g.before out' g.begin end → AddedAs ws s s₂ g out' bs (lines_of bs (differ u v) steps) x
    unfolding ThroughAs tried_line_is
    kept_back r told x y p z = record {
      lines = tried_line_is ∷ [];
      says = ap (λ o. and_then o (λ x l. trial_lines bs x l)) t.joins ∙ ap (λ cs. and_then (look_through bs (rights cs) rest) (λ _ l. done (not_all (resolve_right bs cs) ∷ []) l)) (trial_new t.new bs)
          ∙ ap (λ o. and_then o (λ _ l. done (not_all (resolve_right bs (reverse t.new)) ∷ []) l)) told ∙ y;
      page = p;
      bindings_in = t.looks.held.bindings_in;
      apart = t.apart;
      touched = z;
    }

    pub tried_stops : (e : Stopped) → ThroughAs bs (rights (reverse t.new)) rest (Err e) → AddedAs ws s s₂ g out bs (lines_of bs (differ u v) steps) (Err e)
    tried_stops e told = kept_back (Err e) told (Err e) refl (λ next left q. clash (cc)) g.page.touched

    pub tried_done : (after : ℕ) → ThroughAs bs (rights (reverse t.new)) rest (Ok after) → {out' : List ℕ} {next : ℕ} → Extended g out' next (tried_line_is ∷ []) → AddedAs ws s s₂ g out' bs (lines_of bs (differ u v) steps) (Ok (next, after))
    tried_done after told {next = next} p = kept_back (Ok after) told (Ok (next, after)) refl (page_done p) p.touched

-- A term that was looked through, with the lines that its constraint comes to

module _ {ws s : List ℕ} {bs : Substitution} {out : List ℕ} {first end place : ℕ} (g : Writing s out first end place) (held : Binds ws s bs) (t : Term) (steps : ℕ) (lines : List Line) where
  abbrev term_lines : Outcome (List Line)
  term_lines = and_then (scan never bs [] t steps) (λ _ l. done lines l)

  pub term_stops : (e : Stopped) → LookedThroughAs bs t steps (Err e) → AddedAs ws s s g out bs term_lines (Err e)
  unfolding LookedThroughAs
  term_stops e told = record { lines = []; says = ap (λ o. and_then o (λ _ l. done lines l)) told; page = λ next left q. clash (cc); bindings_in = held.bindings_in; apart = apart_same s; touched = g.page.touched }

  pub term_done : (rest : ℕ) → LookedThroughAs bs t steps (Ok rest) → {out' : List ℕ} {next : ℕ} → Extended g out' next lines → AddedAs ws s s g out' bs term_lines (Ok (next, rest))
  unfolding LookedThroughAs
  term_done rest told p = record { lines = lines; says = ap (λ o. and_then o (λ _ l. done lines l)) told; page = page_done p; bindings_in = held.bindings_in; apart = apart_same s; touched = p.touched }

-- an absence
module _ {ws s : List ℕ} {w : ℕ} {bs : Substitution} {a : Atom} {t : Term} (held : Binds ws s bs) (h : KeepsAt ws w (absento a t)) where
  pub absento_follows : Follows ws s bs (w + 2) t
  absento_follows = record { binds = held; stands = absento_term ws w a t h }

  module _ {out : List ℕ} {first end place : ℕ} (g : Writing s out first end place) {bits k p : ℕ} (node : PartRead ws (w + 1) bits k p) where
    pub absento_adds : AddsAbsent ws s out bits (w + 2) first end place
    absento_adds = record {
      writing = g;
      tag_of = a;
      is_tag = atom_word_is bits a (absento_tag ws w a t h node);
      term = resolve bs t;
      here = record { bindings = bs; term = t; follows = absento_follows; is = refl };
    }

    pub absento_page : {out' : List ℕ} {place' : ℕ} → ((k : AddsAbsent ws s out bits (w + 2) first end place) → Extended k.writing out' place' (lacks_each k.tag_of (occurrences k.term)))
        → Extended g out' place' (lacks_each a (appear [] (resolve bs t)))
    unfolding absento_adds
    absento_page {out'} {place'} f = subst (AnswerSoFar g.before out' g.begin first end place' g.head) (absent_once g.names a g.lines (resolve bs t)) (f absento_adds)

-- a type
typed_walked : (bs : Substitution) → Good bs → (k : Sort) (t : Term) → typed_lines k (resolve bs t) ≡ typed_lines k (walk bs t)
typed_walked bs good k t = go (walk bs t) (walk_seen bs good t)
  where
    go : (f : Term) → Seen bs (resolve bs t) f → typed_lines k (resolve bs t) ≡ typed_lines k f
    go (var x) q = ap (typed_lines k) q.1
    go (atom a) q = ap (typed_lines k) q
    go (pair a b) q = ap (typed_lines k) q

module _ {ws s : List ℕ} {bs : Substitution} {w : ℕ} {t : Term} {kind : ℕ} {out : List ℕ} {first end place : ℕ} (k : Sort) (g : Writing s out first end place) (f : Follows ws s bs w t) (e : kind ≡ sort_kind k) where
  pub typed_adds : AddsTyped ws s out kind w first end place
  typed_adds = record { writing = g; sort = k; is_kind = e; term = resolve bs t; here = record { bindings = bs; term = t; follows = f; is = refl } }

  pub typed_page : {out' : List ℕ} {place' : ℕ} → ((a : AddsTyped ws s out kind w first end place) → Extended a.writing out' place' (typed_lines a.sort a.term)) → Extended g out' place' (typed_lines k (walk bs t))
  unfolding typed_adds
  typed_page {out'} {place'} a = subst (Extended g out' place') (typed_walked bs f.binds.good k t) (a typed_adds)

-- One constraint, whatever its kind

module _ {ws s : List ℕ} {bs : Substitution} {cs : List Constraint} {w : ℕ} {c : Constraint} {trail : ℕ} (h : Lists ws s bs cs w c trail) where
  pub lists_differ : (q : DifferAt ws w c) {second : ℕ} → second + pos_of (w + 1) ≡ w + 1 + q.first.to → Differs ws s bs (w + 1) q.left second q.right trail
  lists_differ q {second} e = record {
    meets = record { held = h.held; first = q.first; second = q.second second e; trail_is = h.trail_is };
    unforced = subst (Passes bs cs) q.is h.passes;
  }

pub added_one : {ws s s' : List ℕ} {out : List ℕ} {first end place : ℕ} {g : Writing s out first end place} {out' : List ℕ} {bs : Substitution} {r : Result (ℕ × ℕ) Stopped} (c d : Constraint) (steps : ℕ) → c ≡ d
    → AddedAs ws s s' g out' bs (lines_of bs d steps) r → AddedAs ws s s' g out' bs (lines_of bs c steps) r
added_one {ws} {s} {s'} {g = g} {out' = out'} {bs = bs} {r = r} c d steps e h = subst (λ z. AddedAs ws s s' g out' bs (lines_of bs z steps) r) (sym e) h

-- All constraints

-- where the loop is: constraints from i on are left, the lines of those before are added
pub record Adding (ws s₀ : List ℕ) {out₀ : List ℕ} {first end place₀ : ℕ} (g : Writing s₀ out₀ first end place₀) (bs : Substitution) (cs : List Constraint) (trail kept steps : ℕ) (s out : List ℕ) (place left i : ℕ) : Type 0 where
  pub whole : ConstraintsHeld ws s bs cs trail kept
  pub apart : Apart s₀ s
  pub later : List Constraint
  pub kept_in : KeptIn ws s i later
  pub count : i + length later ≡ kept
  pub passes : Each (Passes bs cs) later
  pub lines : List Line
  pub page : Extended g out place lines
  pub same : all_lines bs cs steps ≡ and_then (all_lines bs later left) (λ ms m. done (lines ++ ms) m)

then_self : (o : Outcome (List Line)) → o ≡ and_then o (λ ms m. done ([] ++ ms) m)
then_self (done ls l) = refl
then_self (stop why l) = refl

then_more : (ls ms : List Line) (o : Outcome (List Line)) → and_then (and_then o (λ ns m. done (ms ++ ns) m)) (λ ns m. done (ls ++ ns) m) ≡ and_then o (λ ns m. done ((ls ++ ms) ++ ns) m)
then_more ls ms (done ns l) = ap (λ z. done z l) (sym (append_assoc ls ms ns))
then_more ls ms (stop why l) = refl

pub adding_start : {ws s out : List ℕ} {first end place : ℕ} (g : Writing s out first end place) {bs : Substitution} {cs : List Constraint} {made trail kept : ℕ} (steps : ℕ) → ConstraintsHeld ws s bs cs trail kept → Sound bs cs made
    → Adding ws s g bs cs trail kept steps s out place steps 0
unfolding add_lines
adding_start {s = s} g {bs} {cs} steps h k = record {
  whole = h;
  apart = apart_same s;
  later = cs;
  kept_in = h.kept_in;
  count = omega (arith, h.kept_is);
  passes = k.passes;
  lines = [];
  page = g.page;
  same = then_self (all_lines bs cs steps);
}

module _ {ws s₀ out₀ : List ℕ} {first end place₀ : ℕ} {g : Writing s₀ out₀ first end place₀} {bs : Substitution} {cs : List Constraint} {trail kept steps : ℕ} {s out : List ℕ} {place left i : ℕ} (h : Adding ws s₀ g bs cs trail kept steps s out place left i) where
  pub adding_long : length out ≡ length out₀
  adding_long = h.page.touched.long ∙ sym g.page.touched.long

  -- the answer under way is that of the caller, with more lines
  abbrev pub adding_writing : Writing s out first end place
  adding_writing = record { before = g.before; begin = g.begin; head = g.head; lines = add_lines g.names g.lines h.lines; names = g.names; page = h.page; given = given_apart h.apart g.given; room = room_same adding_long g.room }

  pub record AddingNext : Type 0 where
    pub one : Constraint
    pub others : List Constraint
    pub is : h.later ≡ one ∷ others
    pub lists : Lists ws s bs cs (at s (10240 + i)) one trail
    pub kept_in : KeptIn ws s (suc i) others
    pub passes : Each (Passes bs cs) others

  pub adding_next : i < kept → AddingNext
  adding_next lt = go h.later refl h.kept_in h.count h.passes
    where
      go : (later : List Constraint) → h.later ≡ later → KeptIn ws s i later → i + length later ≡ kept → Each (Passes bs cs) later → AddingNext
      go [] e k n p = absurd (omega arith)
      go (c ∷ later) e k n p = record { one = c; others = later; is = e; lists = record { held = h.whole.held; keeps = k.0; trail_is = h.whole.trail_is; passes = p.0 }; kept_in = k.1; passes = p.1 }

  pub adding_end : kept ≤ i → AddedAs ws s₀ s g out bs (all_lines bs cs steps) (Ok (place, left))
  adding_end le = record {
    lines = h.lines;
    says = h.same ∙ go h.later h.count;
    page = page_done h.page;
    bindings_in = h.whole.held.bindings_in;
    apart = h.apart;
    touched = h.page.touched;
  }
    where
      go : (later : List Constraint) → i + length later ≡ kept → and_then (all_lines bs later left) (λ ms m. done (h.lines ++ ms) m) ≡ done h.lines left
      go [] e = ap (λ z. done z left) (append-nil h.lines)
      go (c ∷ later) e = absurd (omega arith)

  module _ (n : AddingNext) where
    next_is : (o : Outcome (List Line)) → lines_of bs n.one left ≡ o → all_lines bs cs steps ≡ and_then (and_then o (λ ls l. and_then (all_lines bs n.others l) (λ ms m. done (ls ++ ms) m))) (λ ms m. done (h.lines ++ ms) m)
    next_is o e = h.same ∙ ap (λ z. and_then (all_lines bs z left) (λ ms m. done (h.lines ++ ms) m)) n.is ∙ ap (λ z. and_then (and_then z (λ ls l. and_then (all_lines bs n.others l) (λ ms m. done (ls ++ ms) m))) (λ ms m. done (h.lines ++ ms) m)) e

    pub adding_stops : {s' out' : List ℕ} (e : Stopped) → AddedAs ws s s' adding_writing out' bs (lines_of bs n.one left) (Err e) → AddedAs ws s₀ s' g out' bs (all_lines bs cs steps) (Err e)
    adding_stops e told = record { lines = []; says = next_is (stops e) told.says; page = λ next left q. clash (cc); bindings_in = told.bindings_in; apart = apart_trans h.apart told.apart; touched = told.touched }

    pub adding_on : {s' out' : List ℕ} (next rest : ℕ) → AddedAs ws s s' adding_writing out' bs (lines_of bs n.one left) (Ok (next, rest)) → Adding ws s₀ g bs cs trail kept steps s' out' next rest (i + 1)
    adding_on {s'} {out'} next rest told =
        let l : length h.later ≡ suc (length n.others) = ap length n.is in
        let z : suc i ≡ i + 1 = omega arith in
        record {
          whole = kept_again told.apart told.bindings_in h.whole;
          apart = apart_trans h.apart told.apart;
          later = n.others;
          kept_in = kept_same ws s s' (i + 1) n.others (λ j lo hi. told.apart.middle j (omega arith) (omega (arith, h.count, h.whole.few))) (subst (λ k. KeptIn ws s k n.others) z n.kept_in);
          count = omega (arith, h.count);
          passes = n.passes;
          lines = h.lines ++ told.lines;
          page = subst (AnswerSoFar g.before out' g.begin first end next g.head) (sym (add_append g.names g.lines h.lines told.lines)) (told.page next rest refl);
          same = next_is (done told.lines rest) told.says ∙ then_more h.lines told.lines (all_lines bs n.others rest);
        }
