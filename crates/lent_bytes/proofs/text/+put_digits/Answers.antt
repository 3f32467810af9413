-- Each call of the cycle {put_digits} meets its contract. Assumes nothing.
use Rattle.lent_bytes.proofs.Digits.{digits_none, digits_last, digits_more}
use Rattle.lent_bytes.proofs.text.+put_digits.Goals as goal

pub returns-then-left-eq0 : goal.returns-then-left-eq0
returns-then-left-eq0 t c = digits_none _ _ _ _ c.if-left-eq0.true

pub returns-then-n-lt10 : goal.returns-then-n-lt10
returns-then-n-lt10 t c = digits_last _ _ _ _ c.if-left-eq0.false c.if-n-lt10.true

pub returns : goal.returns
returns t c = digits_more _ _ c.if-left-eq0.false c.if-n-lt10.false c.put_digits-next.ensures
