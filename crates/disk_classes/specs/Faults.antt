-- Errors of the log, as those of classes.
use Rattle.disk_log.specs.declared.fault.LogFault.{LogFault}
use Rattle.disk_log.specs.declared.fault.LogFault.TheVariants.{Failed, Full, NotALog, Memory}
use Rattle.disk_classes.specs.declared.fault.ClassFault.{ClassFault}
use Rattle.disk_classes.specs.declared.fault.ClassFault.TheVariants.{Failed as DiskFailed, Full as LogFull}
use Rattle.disk_classes.specs.declared.fault.ClassFault.TheVariants.{Memory as NoRoom}

-- no call of a log that was mounted finds that it is none
abbrev pub class_fault : LogFault → ClassFault
class_fault Failed = DiskFailed
class_fault (NotALog place) = DiskFailed
class_fault (Full free needed) = LogFull free needed
class_fault Memory = NoRoom
