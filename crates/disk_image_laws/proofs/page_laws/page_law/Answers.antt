use Rattle.disk_image_laws.proofs.Pages.{free_pages, headers, numbers_pages, object_pages, server_pages}
use Rattle.disk_image_laws.proofs.page_laws.page_law.Goals as goal

pub returns-clause-server : goal.returns-clause-server
returns-clause-server c = server_pages

pub returns-clause-numbers : goal.returns-clause-numbers
returns-clause-numbers c = numbers_pages

pub returns-clause-headers : goal.returns-clause-headers
returns-clause-headers c = headers

pub returns-clause-objects : goal.returns-clause-objects
returns-clause-objects c = object_pages

pub returns-clause-free : goal.returns-clause-free
returns-clause-free c = free_pages
