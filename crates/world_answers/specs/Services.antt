-- Definitions of what answers lines: a world, how long an answer may be, and how much work what is asked together may be.
use Rattle.std.specs.Prelude.{ℕ, Option, None}
use Rattle.load_rounds.specs.declared.limits.Limits.{Limits}
use Rattle.plan_requests.specs.Servers.{ServerOf}
use Rattle.world.specs.Worlds.{WorldOf, server_of}
use Rattle.world_answers.specs.declared.service.Service.{Service}

-- a world, how many bytes the text of an answer has at most, and how much work what is asked together may be
pub record ServiceOf : Type 0 where
  pub world : WorldOf
  pub most : Option ℕ
  pub work : Option ℕ

-- the server of its world
abbrev pub server_in : ServiceOf → ServerOf
server_in s = server_of s.world

-- the limits of its clients, whose rounds have none, nor have the steps of a call
abbrev pub limits_in : ServiceOf → Limits
limits_in s = record { work = s.work; rounds = None; steps = None }

-- a world whose answers may have `most` bytes, or any number, and where what is asked together may be this much work, or any
abbrev pub within : Option ℕ → Option ℕ → WorldOf → ServiceOf
within most work w = record { world = w; most = most; work = work }

abbrev pub service_of : Service → ServiceOf
service_of s = within s.max_answer s.max_work s.world.now
