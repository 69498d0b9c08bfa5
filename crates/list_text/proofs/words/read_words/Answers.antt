-- Word after word, as the definition has them.
use Prim.Native.Nat.{◌+◌, ◌*◌, ◌<◌}
use native.Mathlib.Omega.{arith}
use lib.ListN.{length, length-set}
use Rattle.list_text.proofs.WordLaws.{word_more}
use Rattle.list_text.proofs.words.read_words.Goals as goal

pub loop-i-preserved : goal.loop-i-preserved
loop-i-preserved c = let bytes = c.args.bytes.now in
    let inside : c.loop-i.i < length c.loop-i.words = omega arith in
    let whole : 4 * c.loop-i.i + 3 < length bytes = omega arith in
    (simp length-set (omega arith), word_more c.loop-i.words bytes c.loop-i.i _ c.loop-i.invariant.1 inside whole c.from_bytes-word.ensures)
