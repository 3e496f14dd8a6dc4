-- What crates above may use of this one.

-- the decision is yes exactly for a score that fits
pub use Rattle.fits.proofs.Keeping.{fits_exactly}
-- the answer of the call is Ok(true) exactly for a score that fits
pub use Rattle.fits.proofs.Keeping.{fits_keeps}
