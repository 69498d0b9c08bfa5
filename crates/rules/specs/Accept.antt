-- The reading of document 01 as a whole: for every list of words the program, or the refusal's number and place.
use Rattle.std.specs.Prelude.{ℕ, Bool, true, false, List}
use Rattle.rules.specs.Syntax.{Program}
use Rattle.rules.specs.Reading.{Reading, found, refuse, read_structure}
use Rattle.rules.specs.Settings.{settings_good}
use Rattle.rules.specs.Calls.{Fault, sound, fault, relations_fault}

pub data Accept : Type 0 where
  accepted : Program → Accept
  refused : ℕ → ℕ → Accept

abbrev pub judge : Program → Fault → Accept
judge P sound = accepted P
judge P (fault c p) = refused c p

-- "then 7 and 8", where no fault was met before
abbrev pub calls_read : Reading Program → Accept
calls_read (found P n) = judge P (relations_fault P P 0)
calls_read (refuse c p) = refused c p

-- "1; then 2 to 6 reading from word 0 up, the first fault met ..; then 7 and 8"
unfoldable pub read : List ℕ → Accept
read ws = calls_read (read_structure ws)

abbrev pub admit : Bool → List ℕ → Accept
admit true ws = read ws
admit false ws = refused 9 0

-- "Order: 9; 1; then 2 to 6 ..; then 7 and 8", for the words and the settings of a run
abbrev pub read_with : ℕ → ℕ → List ℕ → Accept
read_with rounds scratch ws = admit (settings_good rounds scratch) ws
