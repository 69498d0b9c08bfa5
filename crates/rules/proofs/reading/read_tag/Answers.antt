-- `read_tag` reads a tag as `read_tag` says.
use Rattle.std.proofs.Common.{rules, of_calls}
use Rattle.rules.proofs.Readers.{tag_told}
use Rattle.rules.proofs.reading.read_tag.Goals as goal

pub returns : goal.returns
returns c = tag_told _ _ _ _ _ _ c.read_word.ensures c.or_else.ensures (λ e p. search (rules, of_calls))
