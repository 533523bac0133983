-- Why a check was refused.
use Rattle.std.specs.Prelude.{IsTrue, ⊤}
use Rattle.base_types.specs.Faults.{RoseBy}
use Rattle.base_types.specs.View.{View}
use Rattle.disk_check.specs.declared.fault.CheckRefused.{CheckRefused}
use Rattle.disk_check.specs.declared.fault.CheckRefused.TheVariants.{Failed, Memory}

-- the disk failed, or memory ran out
abbrev pub IsRefused : CheckRefused → View → View → Type 0
IsRefused Failed old new = RoseBy 1 old.faults new.faults × IsTrue new.last_failed
IsRefused Memory old new = ⊤
