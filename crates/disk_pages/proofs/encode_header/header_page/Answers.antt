use Rattle.std.proofs.Common.{◌∙◌, ap}
use Rattle.disk_pages.specs.Server.{server_of}
use Rattle.disk_pages.specs.Sound.{is_sound_header}
use Rattle.disk_pages.proofs.HeaderPages.{before_name, header_says, header_spaces, header_told}
use Rattle.disk_pages.proofs.encode_header.header_page.Goals as goal

pub put_name-requires-clause-zeros : goal.put_name-requires-clause-zeros
put_name-requires-clause-zeros c =
    before_name c.put_byte.new.page c.put_u32.new.bytes c.put_u32-2.new.bytes c.put_byte.ensures.rest c.put_u32.ensures.rest c.put_u32-2.ensures.rest

pub returns-clause-header : goal.returns-clause-header
returns-clause-header c = λ server two.
    header_says c.put_byte.new.page c.put_u32.new.bytes c.put_u32-2.new.bytes c.put_name.new.page c.put_byte-2.new.page c.put_u32-3.new.bytes c.put_u64.new.bytes c.put_u32-4.new.bytes
    c.put_byte.ensures.rest c.put_u32.ensures.rest c.put_u32-2.ensures.rest c.put_name.ensures.rest c.put_byte-2.ensures.rest c.put_u32-3.ensures.rest c.put_u64.ensures.rest c.put_u32-4.ensures.rest
    c.args.header.now c.state_byte.result server c.state_byte.ensures c.put_byte.ensures.byte c.put_u32.ensures.number c.put_u32-2.ensures.number c.put_name.ensures.name
    c.put_byte-2.ensures.byte c.put_u32-3.ensures.number c.put_u64.ensures.number c.put_u32-4.ensures.number two

pub returns-clause-page : goal.returns-clause-page
returns-clause-page c = λ home server two.
    header_told home server c.put_u32-4.new.bytes two
    (header_spaces c.put_byte.new.page c.put_u32.new.bytes c.put_u32-2.new.bytes c.put_name.new.page c.put_byte-2.new.page c.put_u32-3.new.bytes c.put_u64.new.bytes c.put_u32-4.new.bytes
    c.put_byte.ensures.rest c.put_u32.ensures.rest c.put_u32-2.ensures.rest c.put_name.ensures.rest c.put_byte-2.ensures.rest c.put_u32-3.ensures.rest c.put_u64.ensures.rest c.put_u32-4.ensures.rest
    c.put_name.ensures.is_name)
    ∙ ap (is_sound_header home (server_of server)) (returns-clause-header c server two)
