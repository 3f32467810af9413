-- Demand 3. Assumes nothing.
use Rattle.promises.specs.Demand3.{Groups, OrderFree, OrderFreeFrom}
use Rattle.theory.proofs.Groups as G
use Rattle.theory.proofs.Order as O

pub groups : Groups
groups = G.groups

pub order_free_from : OrderFreeFrom
order_free_from = O.order_free_from

pub order_free : OrderFree
order_free = O.order_free
