use Rattle.std.proofs.Common.{◌∙◌, List, get_or, set, ap}
use Rattle.disk_classes.specs.declared.member.Noted.{Noted as Kept}
use Rattle.disk_classes.proofs.Ended.{read_at}
use Rattle.disk_classes.proofs.Joinable.{joinable, notes_page, noted_back}
use Rattle.disk_classes.proofs.Noted.{live_within}
use Rattle.disk_classes.proofs.members.Members.note.Goals as goal

pub note_page-requires : goal.note_page-requires
note_page-requires c = live_within c.args.self.now.noted c.args.member c.requires.live

pub join_page-requires-clause-within : goal.join_page-requires-clause-within
join_page-requires-clause-within c =
    (joinable c.args.member c.args.page c.args.self.now.noted c.args.self.now.values c.requires.partition c.requires.values c.requires.live c.note_page.new.noted c.in_ok-pages.ensures.ok.1).within

pub join_page-requires-clause-classes : goal.join_page-requires-clause-classes
join_page-requires-clause-classes c =
    (joinable c.args.member c.args.page c.args.self.now.noted c.args.self.now.values c.requires.partition c.requires.values c.requires.live c.note_page.new.noted c.in_ok-pages.ensures.ok.1).classes

pub join_page-requires-clause-values : goal.join_page-requires-clause-values
join_page-requires-clause-values c =
    (joinable c.args.member c.args.page c.args.self.now.noted c.args.self.now.values c.requires.partition c.requires.values c.requires.live c.note_page.new.noted c.in_ok-pages.ensures.ok.1).values_in

pub join_page-requires-clause-member : goal.join_page-requires-clause-member
join_page-requires-clause-member c =
    (joinable c.args.member c.args.page c.args.self.now.noted c.args.self.now.values c.requires.partition c.requires.values c.requires.live c.note_page.new.noted c.in_ok-pages.ensures.ok.1).member_in

pub returns-in-Ok-clause-ok : goal.returns-in-Ok-clause-ok
returns-in-Ok-clause-ok c =
    notes_page c.args.member c.args.page c.args.self.now.noted c.args.self.now.values c.requires.partition c.requires.values c.requires.live c.note_page.new.noted c.join_page.new.self.noted c.in_ok-pages.ensures.ok.1 c.in-Ok.ensures.ok

pub returns-in-Err-clause-err : goal.returns-in-Err-clause-err
returns-in-Err-clause-err c =
    let err = c.in-Err.ensures.err in
    let now = c.note_page.new.noted in
    let x = c.get_mut.result.now in
    let within = (joinable c.args.member c.args.page c.args.self.now.noted c.args.self.now.values c.requires.partition c.requires.values c.requires.live now c.in_ok-pages.ensures.ok.1).member_in in
    (λ j. set (err j) c.args.member (c.drop_page.ensures j))
    ∙ noted_back c.args.member c.args.page c.args.self.now.noted c.args.self.now.values c.requires.partition c.requires.values c.requires.live now x c.in_ok-pages.pages c.in_ok-pages.ensures.ok.1
    (read_at now c.args.member x within (c.get_mut.ensures.value ∙ ap (λ (l : List Kept). get_or l c.args.member x) err)) c.in_ok-pages.ensures.ok.0
