-- Each call of `play_all` has one desk fewer, so the calls end.
use Rattle.std.proofs.Common.{vec_len}
use Rattle.test_cases.proofs.schedules.+play_all.Given as goal

abbrev pub decreases-play_all : goal.decreases-play_all
decreases-play_all g l = vec_len l.desks
