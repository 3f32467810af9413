-- What falls from call to call of `put_digits`: `left`. Assumes nothing.
use Rattle.lent_bytes.proofs.text.+put_digits.Given as goal

abbrev pub decreases-put_digits : goal.decreases-put_digits
decreases-put_digits l = l.left
