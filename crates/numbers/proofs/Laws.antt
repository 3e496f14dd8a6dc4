-- What crates above may use of this one: they unfold none of its definitions.

-- a contract that is an equation has one answer
pub use Rattle.numbers.proofs.Refusals.{results_apart}
pub use Rattle.numbers.proofs.Answers.{one_answer, Apart, one_reading, apart_by, case_of, apart_cases}
-- a table of questions and answers
pub use Rattle.numbers.specs.Answers.{Agree}
-- a flag by its cases, by the kit; and a conjunction that holds
pub use borrow.Table.Steps.{cases}
pub use Rattle.numbers.proofs.Flags.{never, not_both, holds, both, and_left, and_right, cond_same}
-- the greatest common divisor divides both numbers, and all that divides both divides it
pub use Rattle.numbers.proofs.Divisor.{gcd_left, gcd_right, gcd_greatest, gcd_zero, gcd_pos, gcd_le}
-- what follows where it is 1
pub use Rattle.numbers.proofs.Coprime.{gcd_times, gcd_over, gcd_of_zero, euclid, same_num, same_den}
-- signs: what the machine reads back from a signed number's bits, and where an i64 stops
pub use Rattle.numbers.proofs.Signs.{read_pos, mag_quot, unstopped}
-- two's complement: the bits of a number are the number's, and the number of bits has those bits
pub use Rattle.numbers.proofs.Bits.{bits_fit, signed_bits, bits_signed}
pub use Rattle.numbers.proofs.Exacts.{abs_sign, sign_abs, abs_times, neg_times}
-- a sign and two words are the number
pub use Rattle.numbers.proofs.Exacts.{value_exact, valued}
-- whole numbers with a sign, for `omega`: each by its part above zero and its part below
pub use Rattle.numbers.proofs.Parts.{up, down, eq_parts, lt_parts, parts_lt, sum_parts, up_neg, down_neg, up_times, down_times}
pub use Rattle.numbers.proofs.Parts.{not_negative, natural, grows}
pub use Rattle.numbers.proofs.Parts.{minus_times, times_times, sum_times, gap_times, swapped, swapped_signed, times_cancel, lt_trans, sums_apart}
-- the order of two numbers
pub use Rattle.numbers.proofs.Orders.{less_is, equal_only, same_equal, turned, exchanged, order_minus, order_times}
-- by the order of two numbers; products
pub use Rattle.numbers.proofs.Words.{by_order, ltb_same, product_fits, factor_zero, one_more}
-- lists by their entries, and written into lent ones
pub use Rattle.numbers.proofs.Lists.{entries_length, are_entries, sets_append, drop_four}
pub use Rattle.numbers.proofs.Writing.{Writing, begin, begin_by, more, finish, in_place, ahead, skip, more_word, copy_more, copied, move}
