-- The rounds of a run: what is known after each, and what they come to.
use Prim.Native.Nat.{ℕ, zero, suc, ◌+◌, ◌-◌, ◌<◌, ◌≤◌}
use mathlib.Core.Path.{◌≡◌, refl, sym, ap, ◌∙◌, subst}
use mathlib.Core.List.{List, []}
use native.Mathlib.Omega.{arith}
use lib.ListN.{length}
use Rattle.rules.specs.Syntax.{Program, Relation}
use Rattle.semantics.specs.Substitution.{argument}
use Rattle.semantics.specs.Round as definition
use Rattle.semantics.specs.Round.{Tally, Rounded, completed, broken, End, start, one_round, Result}
use Rattle.semantics.specs.Run.{usable, page}
use Rattle.semantics.proofs.Fair.{RoundedFair, search_fair}
use Rattle.std.specs.Prelude.{Ok, Err}
use Rattle.engine.specs.Report.{end_says}
use Rattle.engine.specs.Rounds.{RunReady, TallyAs, Starting, CompletedAs, BrokenAs, RoundedAs, Reported, ResultAs}
use Rattle.engine.specs.declared.report.End as code_end
use Rattle.engine.specs.declared.report.End.TheVariants.{Finished, Rounds}
use Rattle.engine.specs.declared.report.Report.{Report}
use Rattle.engine.specs.Lines.{Wholes}
use Rattle.engine.specs.declared.round.Filled.{Filled}
use Rattle.engine.specs.declared.round.Tally as code_tally
use Rattle.engine.specs.declared.round.Completed.{Completed}
use Rattle.engine.specs.declared.round.Broken.{Broken}
use Rattle.engine.proofs.RepeatsLaws.{indexed_none}

-- a round only spends steps
left_of : Rounded → ℕ
left_of (completed t) = t.left
left_of (broken e t) = t.left

fewer : (P : Program) (R : Relation) (k : ℕ) (a : Tally) (x : Rounded) → one_round P R k a.room a.left a.written ≡ x → left_of x ≤ a.left
unfolding left_of
fewer P R k a x e =
    let t : Tally = record { left = a.left; room = a.room; cuts = 0; written = a.written } in
    go x (subst (RoundedFair a.left (a.room + length (page a.written))) e (search_fair argument P R.params k (a.room + length (page a.written)) (suc a.left) (start R t) (omega arith) refl))
  where
    go : (x : Rounded) → RoundedFair a.left (a.room + length (page a.written)) x → left_of x ≤ a.left
    go (completed t) f = f.0
    go (broken e t) f = f.0

-- what is known when a round is to begin: the rounds still to come give the run's result
pub record Going (ws s₀ output₀ : List ℕ) (query limit steps : ℕ) (s output : List ℕ) (k : ℕ) (t : code_tally.Tally) (cut : ℕ) : Type 0 where
  pub up_to : k ≤ limit
  pub on : (P : Program) (R : Relation) → RunReady ws s₀ P query R limit → (a : Tally) × Starting ws s output P query R k t a × (a.left ≤ steps) × (cut ≡ a.cuts)
      × (definition.rounds steps P R limit 0 (usable (length output₀)) steps 0 [] ≡ definition.rounds steps P R (limit - k) k a.room a.left a.cuts a.written)

nothing_whole : Wholes []
unfolding Wholes
nothing_whole = tt

pub start_going : (ws s output : List ℕ) (query limit steps : ℕ) (t : code_tally.Tally) → t.left ≡ steps → t.filled ≡ record { used = 0; answers = 0; index = 0 } → steps ≤ 4294967295 → Going ws s output query limit steps s output 0 t 0
start_going ws s output query limit steps t l none few =
    record {
      up_to = omega arith;
      on = λ P R r. (
        record { left = steps; room = usable (length output); cuts = 0; written = [] },
        record {
          ready = record { is_read = r.is_read; query_is = r.query_is; clean = r.clean; few_rounds = omega arith };
          tally = record { left = l; filled = rw none (record { used = refl; room = omega arith; answers = refl; page_is = refl }); counted = omega (arith, ap (λ (f : Filled). f.answers) none) };
          index = rw none (record { whole = nothing_whole; fits = omega arith; indexed = indexed_none output (usable (length output)) [] });
        },
        omega arith,
        refl,
        (let z : limit - 0 ≡ limit = omega arith in rw z refl),
      );
    }

-- the rest of a run after a round
rest_of : (steps : ℕ) (P : Program) (R : Relation) (later k last_cut : ℕ) → Rounded → Result
rest_of steps P R zero k last_cut r = definition.after_round steps k last_cut r (λ t. definition.result steps definition.rounds_used k t.cuts t)
rest_of steps P R (suc later) k last_cut r = definition.after_round steps k last_cut r (λ t. definition.rounds steps P R later (suc k) t.room t.left t.cuts t.written)

rounds_rest : (steps : ℕ) (P : Program) (R : Relation) (later k room left last_cut : ℕ) (written : List definition.Answer)
    → definition.rounds steps P R later k room left last_cut written ≡ rest_of steps P R later k last_cut (one_round P R k room left written)
unfolding rest_of
rounds_rest steps P R zero k room left last_cut written = refl
rounds_rest steps P R (suc later) k room left last_cut written = refl

broken_rest : (steps : ℕ) (P : Program) (R : Relation) (later k last_cut : ℕ) (e : End) (t : Tally)
    → rest_of steps P R later k last_cut (broken e t) ≡ definition.result steps e k last_cut t
unfolding rest_of
broken_rest steps P R zero k last_cut e t = refl
broken_rest steps P R (suc later) k last_cut e t = refl

finished_rest : (steps : ℕ) (P : Program) (R : Relation) (later k last_cut : ℕ) (t : Tally) → t.cuts ≡ 0
    → rest_of steps P R later k last_cut (completed t) ≡ definition.result steps definition.finished k t.cuts t
unfolding rest_of
finished_rest steps P R zero k last_cut t z = rw z
finished_rest steps P R (suc later) k last_cut t z = rw z

cuts_go : (steps c k : ℕ) (t : Tally) (next : Tally → Result) → (c ≡ 0 → ⊥) → definition.after_cuts steps c k t next ≡ next t
cuts_go steps zero k t next n = absurd (n refl)
cuts_go steps (suc c) k t next n = refl

last_rest : (steps : ℕ) (P : Program) (R : Relation) (later k last_cut : ℕ) (t : Tally) → (t.cuts ≡ 0 → ⊥) → later ≡ 0
    → rest_of steps P R later k last_cut (completed t) ≡ definition.result steps definition.rounds_used k t.cuts t
unfolding rest_of
last_rest steps P R zero k last_cut t n z = cuts_go steps t.cuts k t _ n
last_rest steps P R (suc later) k last_cut t n z = absurd (omega arith)

next_rest : (steps : ℕ) (P : Program) (R : Relation) (later k last_cut : ℕ) (t : Tally) → (t.cuts ≡ 0 → ⊥) → (less : ℕ) → later ≡ suc less
    → rest_of steps P R later k last_cut (completed t) ≡ definition.rounds steps P R less (suc k) t.room t.left t.cuts t.written
unfolding rest_of
next_rest steps P R zero k last_cut t n less z = absurd (omega arith)
next_rest steps P R (suc later) k last_cut t n less z = let y : later ≡ less = omega arith in cuts_go steps t.cuts k t _ n ∙ ap (λ l. definition.rounds steps P R l (suc k) t.room t.left t.cuts t.written) y

-- a result from an end, a tally and the cuts of the last completed round
resulted : {output : List ℕ} {limit k cut last_cut : ℕ} {e : End} {b : Tally} {d : code_end.End} {t : code_tally.Tally} {r : Report} → TallyAs output t b → end_says d ≡ e → cut ≡ last_cut → Reported d k limit t cut r → ResultAs output (definition.result limit e k last_cut b) r
resulted {limit = limit} ta q z h = record {
  is_end = ap end_says h.is_end ∙ q;
  is_round = h.is_round;
  is_steps = h.is_steps ∙ ap (λ n. limit - n) ta.left;
  is_answers = h.is_answers ∙ ta.filled.answers;
  is_words = h.is_words ∙ ta.filled.used;
  is_cut = h.is_cut ∙ z;
  page_is = rw h.is_words ta.filled.page_is;
}

module _ {ws s₀ output₀ : List ℕ} {query limit steps : ℕ} {s output : List ℕ} {k : ℕ} {t : code_tally.Tally} {cut : ℕ} (g : Going ws s₀ output₀ query limit steps s output k t cut) {P : Program} {R : Relation} (q : RunReady ws s₀ P query R limit) where
  abbrev pub tally_now : Tally
  tally_now = (g.on P R q).0

  pub starting : Starting ws s output P query R k t tally_now
  starting = (g.on P R q).1

  abbrev pub round_now : Rounded
  round_now = one_round P R k tally_now.room tally_now.left tally_now.written

  abbrev pub run_whole : Result
  run_whole = definition.rounds steps P R limit 0 (usable (length output₀)) steps 0 []

  -- what the round's contract says in each case
  pub told_broken : (s' output' : List ℕ) (b : Broken) → RoundedAs ws s' output' P round_now (Err b) → BrokenAs output' round_now b.end b.tally
  unfolding RoundedAs
  told_broken s' output' b h = h

  pub told_completed : (s' output' : List ℕ) (c : Completed) → RoundedAs ws s' output' P round_now (Ok c) → CompletedAs ws s' output' P round_now c.tally c.cuts
  unfolding RoundedAs
  told_completed s' output' c h = h

  -- a round leaves no more steps than the run has
  left_few : {output' : List ℕ} {u : code_tally.Tally} {last : Tally} (x : Rounded) → round_now ≡ x → left_of x ≡ last.left → TallyAs output' u last → u.left ≤ steps
  left_few x e f ta = omega (arith, fewer P R k tally_now x e, f, ta.left, (g.on P R q).2)

  pub broken_fewer : {output' : List ℕ} {d : code_end.End} {u : code_tally.Tally} → BrokenAs output' round_now d u → u.left ≤ steps
  unfolding left_of
  broken_fewer o = left_few (broken o.end o.last) o.is_round refl o.tally

  pub completed_fewer : {s' output' : List ℕ} {u : code_tally.Tally} {c : ℕ} → CompletedAs ws s' output' P round_now u c → u.left ≤ steps
  unfolding left_of
  completed_fewer o = left_few (completed o.last) o.is_round refl o.tally

  -- the run goes on from what the round comes to
  run_rest : {x : Rounded} → round_now ≡ x → run_whole ≡ rest_of steps P R (limit - k) k tally_now.cuts x
  run_rest e = (g.on P R q).4 ∙ rounds_rest steps P R (limit - k) k tally_now.room tally_now.left tally_now.cuts tally_now.written ∙ ap (rest_of steps P R (limit - k) k tally_now.cuts) e

  ends_as : {output' : List ℕ} {e : End} {last : Tally} {d : code_end.End} {u : code_tally.Tally} {told last_cut : ℕ} {x : Report} → run_whole ≡ definition.result steps e k last_cut last → TallyAs output' u last → end_says d ≡ e → told ≡ last_cut → Reported d k steps u told x → ResultAs output' run_whole x
  ends_as {output'} {x = x} z ta is c y = subst (λ r. ResultAs output' r x) (sym z) (resulted ta is c y)

  pub broken_result : {output' : List ℕ} {d : code_end.End} {u : code_tally.Tally} {x : Report} → BrokenAs output' round_now d u → Reported d k steps u cut x → ResultAs output' run_whole x
  broken_result o y = ends_as (run_rest o.is_round ∙ broken_rest steps P R (limit - k) k _ o.end o.last) o.tally o.is_end (g.on P R q).3 y

  module _ {s' output' : List ℕ} {u : code_tally.Tally} {c : ℕ} (o : CompletedAs ws s' output' P round_now u c) where
    pub finished_result : {x : Report} → c ≡ 0 → Reported Finished k steps u c x → ResultAs output' run_whole x
    finished_result w y = ends_as (run_rest o.is_round ∙ finished_rest steps P R (limit - k) k _ o.last (sym o.cuts_are ∙ w)) o.tally refl o.cuts_are y

    pub rounds_result : {x : Report} → (c ≡ 0 → ⊥) → limit ≤ k → Reported Rounds k steps u c x → ResultAs output' run_whole x
    rounds_result w m y = ends_as (run_rest o.is_round ∙ last_rest steps P R (limit - k) k _ o.last (λ v. w (o.cuts_are ∙ v)) (omega arith)) o.tally refl o.cuts_are y

    next_on : (c ≡ 0 → ⊥) → k < limit → (a : Tally) × Starting ws s' output' P query R (k + 1) u a × (a.left ≤ steps) × (c ≡ a.cuts) × (run_whole ≡ definition.rounds steps P R (limit - (k + 1)) (k + 1) a.room a.left a.cuts a.written)
    next_on w m =
        let v : suc k ≡ k + 1 = omega arith in (
          o.last,
          record { ready = record { is_read = q.is_read; query_is = q.query_is; clean = o.clean; few_rounds = omega (arith, q.few_rounds) }; tally = o.tally; index = o.index },
          omega (arith, completed_fewer o, o.tally.left),
          o.cuts_are,
          run_rest o.is_round ∙ next_rest steps P R (limit - k) k _ o.last (λ v. w (o.cuts_are ∙ v)) (limit - (k + 1)) (omega arith)
              ∙ ap (λ j. definition.rounds steps P R (limit - (k + 1)) j o.last.room o.last.left o.last.cuts o.last.written) v,
        )

pub next_going : {ws s₀ output₀ : List ℕ} {query limit steps : ℕ} {s output : List ℕ} {k : ℕ} {t : code_tally.Tally} {cut : ℕ} (g : Going ws s₀ output₀ query limit steps s output k t cut) {s' output' : List ℕ} {u : code_tally.Tally} {c : ℕ}
    → ((P : Program) (R : Relation) (q : RunReady ws s₀ P query R limit) → CompletedAs ws s' output' P (round_now g q) u c) → (c ≡ 0 → ⊥) → k < limit → Going ws s₀ output₀ query limit steps s' output' (k + 1) u c
next_going g told w m = record { up_to = omega arith; on = λ P R q. next_on g q (told P R q) w m }
