-- The rules of document 004. Assumes nothing.
use Rattle.theory.proofs.Lambda as L
use Rattle.theory.proofs.Preempting as P
use Rattle.theory.proofs.Dispatching as D
use Rattle.theory.proofs.Elapsing as E
use Rattle.theory.proofs.Refilling as R
use Rattle.theory.proofs.Sleeping as S
use Rattle.theory.proofs.Freeing as F
use Rattle.theory.proofs.Joining as J
use Rattle.theory.proofs.Handing as H
use Rattle.theory.proofs.Fixed as X
use Rattle.promises.specs.Paper.{Lambda, LockingFree, LockingOccupied, UnlockingFree, Unlocking, InnerUnlocking, Preemption, RechargingRule, Refilling, Dispatching, Suspension, Waking, OneToServe, RulesFix}

pub lambda : Lambda
lambda = L.lambda

pub one_to_serve : OneToServe
one_to_serve = L.one_to_serve

pub dispatching : Dispatching
dispatching = D.dispatched

pub preemption : Preemption
preemption = P.preempted

pub recharging_rule : RechargingRule
recharging_rule = E.elapses

pub refilling : Refilling
refilling = R.refills

pub suspension : Suspension
suspension = S.sleeps_set

pub waking : Waking
waking = S.wakes_set

pub locking_free : LockingFree
locking_free = F.grants_free

pub locking_occupied : LockingOccupied
locking_occupied = J.locks_behind

pub unlocking_free : UnlockingFree
unlocking_free = F.frees_last

pub unlocking : Unlocking
unlocking = H.hands_all

pub inner_unlocking : InnerUnlocking
inner_unlocking = H.passes_on

pub rules_fix : RulesFix
rules_fix = record {
  dispatching = X.dispatched_fixed;
  preemption = X.preempted_fixed;
  recharging = X.elapsed_fixed;
  refilling = X.recharged_fixed;
  suspension = X.slept_fixed;
  waking = X.woken_fixed;
  locking_free = X.granted_fixed;
  locking_occupied = X.behind_fixed;
  unlocking_free = X.freed_fixed;
  unlocking = X.passed_fixed;
}
