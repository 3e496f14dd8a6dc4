-- Each call has one digit less.
use Rattle.form_text.proofs.tempos.+last_digits.Given as goal

abbrev pub decreases-last_digits : goal.decreases-last_digits
decreases-last_digits l = l.count
