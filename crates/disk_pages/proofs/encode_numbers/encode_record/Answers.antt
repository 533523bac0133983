use Rattle.disk_pages.proofs.NumberPages.{record_there, others_there, numbers_told}
use Rattle.disk_pages.proofs.encode_numbers.encode_record.Goals as goal

pub returns-clause-kept : goal.returns-clause-kept
returns-clause-kept c = record_there c.args.host c.requires c.args.kept c.args.page.now c.put_u64.new.bytes c.put_u64-2.new.bytes c.put_bytes.new.bytes
    c.put_u64.ensures.rest c.put_u64-2.ensures.rest c.put_bytes.ensures.rest c.put_u64.ensures.number c.put_u64-2.ensures.number c.put_bytes.ensures.piece

pub returns-clause-others : goal.returns-clause-others
returns-clause-others c = λ other lt apart. others_there c.args.host c.requires c.args.kept c.args.page.now c.put_u64.new.bytes c.put_u64-2.new.bytes c.put_bytes.new.bytes
    c.put_u64.ensures.rest c.put_u64-2.ensures.rest c.put_bytes.ensures.rest c.put_u64.ensures.number c.put_u64-2.ensures.number c.put_bytes.ensures.piece other apart

pub returns-clause-page : goal.returns-clause-page
returns-clause-page c = numbers_told c.args.host c.requires c.args.kept c.args.page.now c.put_u64.new.bytes c.put_u64-2.new.bytes c.put_bytes.new.bytes
    c.put_u64.ensures.rest c.put_u64-2.ensures.rest c.put_bytes.ensures.rest c.put_u64.ensures.number c.put_u64-2.ensures.number c.put_bytes.ensures.piece
