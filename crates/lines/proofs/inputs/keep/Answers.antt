use Rattle.lines.proofs.Takes.{kept_as_fits}
use Rattle.lines.proofs.inputs.keep.Goals as goal

pub returns : goal.returns
returns c =
    kept_as_fits _ c.args.kept.now.items c.args.part.now _ _ _ c.remaining_capacity.ensures c.min-len.ensures
    c.try_extend_from_slice.ensures.variant.1 c.try_extend_from_slice.ensures.ok
