use Rattle.history_text.proofs.VerbFronts.{with_b, with_c, with_d, with_f, with_i, with_m, with_p, with_r, with_s}
use Rattle.history_text.proofs.acts.verbs_with.Goals as goal

pub returns-in-98 : goal.returns-in-98
returns-in-98 c rest = rw c.in-98.is (with_b rest)

pub returns-in-99 : goal.returns-in-99
returns-in-99 c rest = rw c.in-99.is (with_c rest)

pub returns-in-100 : goal.returns-in-100
returns-in-100 c rest = rw c.in-100.is (with_d rest)

pub returns-in-102 : goal.returns-in-102
returns-in-102 c rest = rw c.in-102.is (with_f rest)

pub returns-in-105 : goal.returns-in-105
returns-in-105 c rest = rw c.in-105.is (with_i rest)

pub returns-in-109 : goal.returns-in-109
returns-in-109 c rest = rw c.in-109.is (with_m rest)

pub returns-in-112 : goal.returns-in-112
returns-in-112 c rest = rw c.in-112.is (with_p rest)

pub returns-in-114 : goal.returns-in-114
returns-in-114 c rest = rw c.in-114.is (with_r rest)

pub returns-in-115 : goal.returns-in-115
returns-in-115 c rest = rw c.in-115.is (with_s rest)
