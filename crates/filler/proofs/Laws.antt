-- What crates above may use of the filler.

-- filled lines never descend: the promise of specs/Promise
pub use Rattle.filler.proofs.Descends.{lines_keep}
