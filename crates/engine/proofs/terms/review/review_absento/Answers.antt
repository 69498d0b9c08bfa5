-- `review_absento` is a scan for the tag.
use Rattle.engine.proofs.ReviewSteps.{absento_term, absento_says}
use Rattle.engine.proofs.terms.review.review_absento.Goals as goal

pub scan-requires : goal.scan-requires
scan-requires c = let p = c.requires in (p.0, p.2, record { binds = p.3.held; stands = absento_term _ _ _ _ p.3.keeps })

pub returns : goal.returns
returns c = absento_says c.args.left c.part_at-tag.ensures _ c.scan.ensures
