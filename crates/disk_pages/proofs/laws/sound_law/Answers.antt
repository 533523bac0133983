use Rattle.disk_pages.proofs.ServerPages.{facts_sound}
use Rattle.disk_pages.proofs.NumberPages.{records_sound}
use Rattle.disk_pages.proofs.HeaderPages.{headers_sound}
use Rattle.disk_pages.proofs.laws.sound_law.Goals as goal

pub returns-clause-server : goal.returns-clause-server
returns-clause-server c = facts_sound

pub returns-clause-numbers : goal.returns-clause-numbers
returns-clause-numbers c = records_sound

pub returns-clause-headers : goal.returns-clause-headers
returns-clause-headers c = headers_sound
