-- What `round` and `rounds` promise.
use Rattle.std.specs.Prelude.{ℕ, ◌+◌, ◌-◌, ◌≤◌, ◌<◌, ◌≡◌, List, [], length, take, Result, Ok, Err, Option, Some, None}
use Rattle.std.proofs.Math.Option.{some}
use Rattle.std.proofs.Math.ListN.{get_elem?}
use Rattle.rules.specs.Syntax.{Program, Relation}
use Rattle.rules.specs.Accept.{read, accepted}
use Rattle.rules.specs.Settings.{scratch_words}
use Rattle.semantics.specs.Path.{Path, ChoicePoint}
use Rattle.semantics.specs.Round as definition
use Rattle.semantics.specs.Run.{usable, page}
use Rattle.engine.specs.Layout.{most_variables}
use Rattle.engine.specs.Reference.{at, TaskAt}
use Rattle.engine.specs.Memory.{TableIn, Nameless}
use Rattle.engine.specs.Report.{end_says}
use Rattle.engine.specs.Take.{PathHeld}
use Rattle.engine.specs.Answer.{Answering, AnswerStands}
use Rattle.engine.specs.Lines.{Wholes}
use Rattle.engine.specs.Index.{Indexed}
use Rattle.engine.specs.declared.report.End.{End}
use Rattle.engine.specs.declared.report.Report.{Report}
use Rattle.engine.specs.declared.search.state.State.{State}
use Rattle.engine.specs.declared.round.Given.{Given}
use Rattle.engine.specs.declared.round.Filled.{Filled}
use Rattle.engine.specs.declared.round.Tally.{Tally}
use Rattle.engine.specs.declared.round.Completed.{Completed}
use Rattle.engine.specs.declared.round.Broken.{Broken}

-- The scratch as a round finds and leaves it: the table of relations filled, no variable bound or named.
pub record Clean (ws s : List ℕ) (P : Program) : Type 0 where
  pub long : scratch_words ≤ length s
  pub table : TableIn ws s P
  pub open_all : (x : ℕ) → x < most_variables → at s x ≡ 0
  pub nameless : Nameless s

-- an accepted program with its query relation, its scratch clean, and a round limit in its bounds
pub record RunReady (ws s : List ℕ) (P : Program) (query : ℕ) (R : Relation) (limit : ℕ) : Type 0 where
  pub is_read : read ws ≡ accepted P
  pub query_is : get_elem? P query ≡ some R
  pub clean : Clean ws s P
  pub few_rounds : limit ≤ 255

-- the output begins with the answers so far
pub record FilledAs (output : List ℕ) (f : Filled) (a : definition.Tally) : Type 0 where
  pub used : f.used ≡ length (page a.written)
  pub room : f.used + a.room ≡ usable (length output)
  pub answers : f.answers ≡ length a.written
  pub page_is : take f.used output ≡ page a.written

-- and their index is at the end of what can be used of it. A round that is broken off has no more need of it.
pub record IndexAs (output : List ℕ) (f : Filled) (a : definition.Tally) : Type 0 where
  pub whole : Wholes (definition.words_of a.written)
  pub fits : f.used + f.index ≤ usable (length output)
  pub indexed : Indexed output (usable (length output)) f.index (definition.words_of a.written)

-- the numbers of a tally are those of the definition's
pub record TallyAs (output : List ℕ) (t : Tally) (a : definition.Tally) : Type 0 where
  pub left : t.left ≡ a.left
  pub filled : FilledAs output t.filled a
  -- each answer has taken a step, so that they are few
  pub counted : t.filled.answers + t.left ≤ 4294967295

pub record Starting (ws s output : List ℕ) (P : Program) (query : ℕ) (R : Relation) (k : ℕ) (t : Tally) (a : definition.Tally) : Type 0 where
  pub ready : RunReady ws s P query R k
  pub tally : TallyAs output t a
  pub index : IndexAs output t.filled a

-- How a round is completed, and how it is broken off, where the definition's comes to x.
pub record CompletedAs (ws s' output' : List ℕ) (P : Program) (x : definition.Rounded) (t : Tally) (cuts : ℕ) : Type 0 where
  pub last : definition.Tally
  pub is_round : x ≡ definition.completed last
  pub clean : Clean ws s' P
  pub tally : TallyAs output' t last
  pub index : IndexAs output' t.filled last
  pub cuts_are : cuts ≡ last.cuts

pub record BrokenAs (output' : List ℕ) (x : definition.Rounded) (d : End) (t : Tally) : Type 0 where
  pub end : definition.End
  pub last : definition.Tally
  pub is_round : x ≡ definition.broken end last
  pub tally : TallyAs output' t last
  pub is_end : end_says d ≡ end

unfoldable pub RoundedAs : List ℕ → List ℕ → List ℕ → Program → definition.Rounded → Result Completed Broken → Type 0
RoundedAs ws s' output' P x (Ok c) = CompletedAs ws s' output' P x c.tally c.cuts
RoundedAs ws s' output' P x (Err b) = BrokenAs output' x b.end b.tally

-- An answer of these words was written up to `next`, where the output was o before. One answer more is a number.
pub record Listing (o output : List ℕ) (f : Filled) (next : ℕ) (a : definition.Tally) (ws : List ℕ) : Type 0 where
  pub before : FilledAs o f a
  pub index : IndexAs o f a
  pub same_length : length output ≡ length o
  pub kept : take f.used output ≡ take f.used o
  pub stands : AnswerStands o output f.used ws next
  pub few : f.answers < 4294967295

-- A path at its end gives its answer. So many branches were cut, and one answer more is a number.
pub record Giving (P : Program) (ws s output : List ℕ) (st : State) (p : Path) (cs : List ChoicePoint) (params : ℕ) (f : Filled) (cuts : ℕ) (a : definition.Tally) : Type 0 where
  pub answering : Answering P ws s output st p cs params f.used
  pub tally : TallyAs output (record { left = st.steps; filled = f }) a
  pub index : IndexAs output f a
  pub cuts_are : a.cuts ≡ cuts
  pub fits : f.answers + st.steps < 4294967295

-- it is listed, or left out as a repeat, and the next goal is to be taken where the newest choice point leads
pub record GoesAs (P : Program) (ws s' output' : List ℕ) (st : State) (cuts : ℕ) (x : definition.Next) (next : State) (goal : ℕ) (f : Filled) : Type 0 where
  pub state : definition.State
  pub is_next : x ≡ definition.going state
  pub held : PathHeld P ws s' next state.path state.choices
  pub task_at : TaskAt ws goal state.task
  pub tally : TallyAs output' (record { left = next.steps; filled = f }) state.tally
  pub index : IndexAs output' f state.tally
  pub cuts_are : state.tally.cuts ≡ cuts
  pub fewer : next.steps ≤ st.steps

-- or the round is over, with this state ..
pub record LastAs (P : Program) (ws s' output' : List ℕ) (cuts : ℕ) (x : definition.Next) (st : State) (f : Filled) : Type 0 where
  pub last : definition.Tally
  pub is_next : x ≡ definition.over (definition.completed last)
  pub path : Path
  pub held : PathHeld P ws s' st path []
  pub tally : TallyAs output' (record { left = st.steps; filled = f }) last
  pub index : IndexAs output' f last
  pub cuts_are : last.cuts ≡ cuts

-- .. or it is broken off
pub record LostAs (output' : List ℕ) (x : definition.Next) (b : Broken) : Type 0 where
  pub round : definition.Rounded
  pub is_next : x ≡ definition.over round
  pub broken : BrokenAs output' round b.end b.tally

abbrev pub GivenAs : Program → List ℕ → List ℕ → List ℕ → State → ℕ → definition.Next → State → Filled → Option ℕ → Type 0
GivenAs P ws s' output' st cuts x next f (Some goal) = GoesAs P ws s' output' st cuts x next goal f
GivenAs P ws s' output' st cuts x last f None = LastAs P ws s' output' cuts x last f

unfoldable pub AnswerGivenAs : Program → List ℕ → List ℕ → List ℕ → State → ℕ → definition.Next → Result Given Broken → Type 0
AnswerGivenAs P ws s' output' st cuts x (Ok g) = GivenAs P ws s' output' st cuts x g.state g.filled g.goal
AnswerGivenAs P ws s' output' st cuts x (Err b) = LostAs output' x b

-- a report is that of a result, and the output begins with its answers
pub record ResultAs (output' : List ℕ) (x : definition.Result) (r : Report) : Type 0 where
  pub is_end : end_says r.end ≡ x.end
  pub is_round : r.round ≡ x.round
  pub is_steps : r.steps ≡ x.steps
  pub is_answers : r.answers ≡ length x.answers
  pub is_words : r.words ≡ length (page x.answers)
  pub is_cut : r.cut ≡ x.cut
  pub page_is : take r.words output' ≡ page x.answers

-- what `report` makes of an end, a tally and the cuts of the last completed round
pub record Reported (end : End) (round steps : ℕ) (t : Tally) (cut : ℕ) (r : Report) : Type 0 where
  pub is_end : r.end ≡ end
  pub is_round : r.round ≡ round
  pub is_steps : r.steps ≡ steps - t.left
  pub is_answers : r.answers ≡ t.filled.answers
  pub is_words : r.words ≡ t.filled.used
  pub is_cut : r.cut ≡ cut
