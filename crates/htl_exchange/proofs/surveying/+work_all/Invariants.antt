-- Each call of `work_all` has one desk fewer, so the calls end.
use Rattle.std.proofs.Common.{vec_len}
use Rattle.htl_exchange.proofs.surveying.+work_all.Given as goal

abbrev pub decreases-work_all : goal.decreases-work_all
decreases-work_all g l = vec_len l.desks
