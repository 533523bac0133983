use Rattle.std.proofs.Common.{◌≡◌, ◌∙◌, length, get_or, ap, arith, rules}
use Rattle.disk_pages.specs.declared.server.TakenShip.{TakenShip}
use Rattle.disk_pages.specs.Sound.{are_facts}
use Rattle.disk_pages.proofs.ServerPages.{server_says, server_gaps, page_told, four_items}
use Rattle.disk_pages.proofs.encode_server.server_page.Goals as goal

pub returns-clause-facts : goal.returns-clause-facts
returns-clause-facts c =
    let many : length c.args.facts.now.hosts ≡ 17 = first_of (omega arith, search rules) in
    let four : length c.args.facts.now.taken ≡ 4 = first_of (omega arith, search rules) in
    let xs = c.args.facts.now.taken in
    let none : TakenShip = record { ship = 0; code = 0 } in
    server_says c.args.facts.now c.put_u64.new.bytes c.put_u32.new.bytes c.put_bytes.new.bytes c.put_byte.new.page c.put_u64-2.new.bytes c.put_taken.new.page c.put_taken-2.new.page c.put_taken-3.new.page c.put_taken-4.new.page
    c.put_u64.ensures.rest c.put_u32.ensures.rest c.put_bytes.ensures.rest c.put_byte.ensures.rest c.put_u64-2.ensures.rest c.put_taken.ensures.rest c.put_taken-2.ensures.rest c.put_taken-3.ensures.rest c.put_taken-4.ensures.rest
    many (get_or xs 0 none) (get_or xs 1 none) (get_or xs 2 none) (get_or xs 3 none) c.put_u64.ensures.number c.put_u32.ensures.number c.put_bytes.ensures.piece c.put_byte.ensures.byte c.put_u64-2.ensures.number
    c.put_taken.ensures.taken c.put_taken-2.ensures.taken c.put_taken-3.ensures.taken c.put_taken-4.ensures.taken (four_items xs none none none none four)

pub returns-clause-page : goal.returns-clause-page
returns-clause-page c =
    let many : length c.args.facts.now.hosts ≡ 17 = first_of (omega arith, search rules) in
    page_told c.put_taken-4.new.page
    (server_gaps c.args.facts.now c.put_u64.new.bytes c.put_u32.new.bytes c.put_bytes.new.bytes c.put_byte.new.page c.put_u64-2.new.bytes c.put_taken.new.page c.put_taken-2.new.page c.put_taken-3.new.page c.put_taken-4.new.page
    c.put_u64.ensures.rest c.put_u32.ensures.rest c.put_bytes.ensures.rest c.put_byte.ensures.rest c.put_u64-2.ensures.rest c.put_taken.ensures.rest c.put_taken-2.ensures.rest c.put_taken-3.ensures.rest c.put_taken-4.ensures.rest
    many c.requires c.put_byte.ensures.byte)
    ∙ ap are_facts (returns-clause-facts c)
