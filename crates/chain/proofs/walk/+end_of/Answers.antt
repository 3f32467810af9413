-- Each call goes on to the owner with one task fewer left, and stops where no task is left, or no task waits. Assumes nothing.
use borrow.Author.Tests.{lt-ltb, le-ltb}
use Rattle.chain.specs.Computed.{end_step}
use Rattle.chain.proofs.Arrays.{end_none, end_more}
use Rattle.chain.proofs.walk.+end_of.Goals as goal

pub returns-then-left-eq0 : goal.returns-then-left-eq0
returns-then-left-eq0 t c = end_none _ _ _ c.if-left-eq0.true

pub returns-then-t-ge16 : goal.returns-then-t-ge16
unfolding end_step
returns-then-t-ge16 t c = end_more _ _ _ _ c.if-left-eq0.false (simp (le-ltb _ _ c.if-t-ge16.true))

pub returns-then-owner-ge16 : goal.returns-then-owner-ge16
unfolding end_step
returns-then-owner-ge16 t c =
    end_more _ _ _ _ c.if-left-eq0.false (simp (lt-ltb _ _ c.if-t-ge16.false, le-ltb _ _ c.if-owner-ge16.true))

pub returns : goal.returns
unfolding end_step
returns t c =
    end_more _ _ _ _ c.if-left-eq0.false (simp (lt-ltb _ _ c.if-t-ge16.false, lt-ltb _ _ c.if-owner-ge16.false) c.end_of.ensures)
