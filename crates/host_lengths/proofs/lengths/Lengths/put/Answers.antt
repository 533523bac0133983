use Rattle.std.proofs.Common.{◌≡◌, List, None, ap, sym, ◌∙◌}
use Rattle.std.specs.Map.{values_of}
use Rattle.indexmap.specs.IndexMap.{insert_entry}
use Rattle.host_lengths.specs.Giving.{with_given}
use Rattle.host_lengths.specs.Lengths.{FileKey, file_key, file_of, keyed, same_file}
use Rattle.host_lengths.specs.declared.given.Given.{Given}
use Rattle.host_lengths.proofs.Keyed.{put_keyed, rekeyed}
use Rattle.host_lengths.proofs.Noted.{lengths_are, noted_here, noted_more, noted_put, nothing_there}
use Rattle.host_lengths.proofs.lengths.Lengths.put.Goals as goal

made_of : (old new : List (FileKey × Given)) (given : Given) (key : FileKey) → key ≡ file_key given.fid →
    old ≡ keyed (values_of old) → new ≡ insert_entry same_file old key given →
    new ≡ keyed (with_given given (values_of old))
made_of old new given key is keys made =
    made ∙ ap (λ k. insert_entry same_file old k given) is
    ∙ ap (λ es. insert_entry same_file es (file_key given.fid) given) keys ∙ put_keyed given (values_of old)

pub invariant_of-self-in_err-insert-2 : goal.invariant_of-self-in_err-insert-2
invariant_of-self-in_err-insert-2 c =
    let old = c.self.inside.by_file.entries in
    let files = c.self.inside.files.entries in
    let none : file_of files c.give_key-give.result ≡ None =
    nothing_there (file_of files c.give_key-give.result) (sym c.contains_key.ensures ∙ c.if-contains_key.false) in
    lengths_are c.insert-2.new.self.entries (values_of old) c.insert.new.self.entries
    (c.in_err-insert-2.ensures.err ∙ c.self.invariant.keys)
    (noted_more files c.insert.new.self.entries c.give_key-give.result c.file_key-key.result none
    c.in_ok-insert.ensures.updates.0 (values_of old) c.self.invariant.noted)

pub invariant_of-self-2 : goal.invariant_of-self-2
invariant_of-self-2 c =
    let old = c.self.inside.by_file.entries in
    let files = c.self.inside.files.entries in
    let new = c.insert.new.self.entries in
    let none : file_of files c.give_key-give.result ≡ None =
    nothing_there (file_of files c.give_key-give.result) (sym c.contains_key.ensures ∙ c.if-contains_key.false) in
    lengths_are c.insert-2.new.self.entries (with_given c.args.given (values_of old)) new
    (made_of old c.insert-2.new.self.entries c.args.given c.file_key-key.result c.file_key-key.ensures
    c.self.invariant.keys c.in_ok-insert-2.ensures.entries)
    (noted_put new c.args.given
    (noted_here files new c.args.given c.give_key-give.result c.file_key-key.result c.give_key-give.ensures
    c.file_key-key.ensures c.in_ok-insert.ensures.updates.0) (values_of old)
    (noted_more files new c.give_key-give.result c.file_key-key.result none c.in_ok-insert.ensures.updates.0
    (values_of old) c.self.invariant.noted))

pub returns-clause-after : goal.returns-clause-after
returns-clause-after c =
    let old = c.self.inside.by_file.entries in
    (rekeyed c.insert-2.new.self.entries (with_given c.args.given (values_of old))
    (made_of old c.insert-2.new.self.entries c.args.given c.file_key-key.result c.file_key-key.ensures
    c.self.invariant.keys c.in_ok-insert-2.ensures.entries)).1 ∙ ap (with_given c.args.given) c.self.view_is
