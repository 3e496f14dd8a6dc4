-- The output has room for the file.
use mathlib.Core.Path.{sym}
use lib.Seq.{length-take-le}
use Rattle.make.proofs.answer.Goals as goal

pub slice_bounds-out-end : goal.slice_bounds-out-end
slice_bounds-out-end g c = c.read_form.ensures.file_fits _ c.in-Ok.is

pub slice_bounds-write_all-end : goal.slice_bounds-write_all-end
slice_bounds-write_all-end g c =
    sym (length-take-le _ _ (c.read_form.ensures.file_fits _ c.in-Ok.is))
