-- Demand 2. Assumes nothing.
use Rattle.theory.proofs.Soundness as S
use Rattle.theory.proofs.Executing as H
use Rattle.theory.proofs.Processors as P
use Rattle.theory.proofs.Accounts as C
use Rattle.theory.proofs.Ticks as T
use Rattle.promises.specs.Demand2.{Kept, SoundAlways, NeverUnsound, OneServer, ServersThatExecute, OneOwner, NoCycle, RuleHAlways, DispatchOnly, AccountsByElapse, Ticks, EachTickOnce}

pub kept : Kept
kept = S.kept

pub sound_always : SoundAlways
sound_always = S.sound_always

pub never_unsound : NeverUnsound
never_unsound = S.never_unsound

pub one_server : OneServer
one_server = S.one_server

pub servers_that_execute : ServersThatExecute
servers_that_execute = S.servers_that_execute

pub one_owner : OneOwner
one_owner = S.one_owner

pub no_cycle : NoCycle
no_cycle = S.no_cycle

pub rule_h_always : RuleHAlways
rule_h_always = H.rule_h_always

pub dispatch_only : DispatchOnly
dispatch_only = P.dispatch_only

pub accounts_by_elapse : AccountsByElapse
accounts_by_elapse = (C.elapse_adds, C.others_add)

pub ticks_are : Ticks
ticks_are = T.ticks_are

pub each_tick_once : EachTickOnce
each_tick_once = T.each_tick_once
