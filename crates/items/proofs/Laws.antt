-- What crates above may use of a line's item.

-- its beats are in lowest terms, and it is not wrong for the reason of the writer
pub use Rattle.items.proofs.Lowest.{Told, FineItem, Fine, item_fine}
