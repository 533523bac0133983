use Rattle.std.proofs.Common.{◌∙◌, List, length, get_or, set, refl, sym, ap, subst, Option, Some, None}
use Rattle.std.proofs.lemmas.Result.{err_from_is_err_and}
use Rattle.disk_classes.specs.Notes.{bytes_in, needed_in, ArePartition, AreValues, AreWithin}
use Rattle.disk_classes.specs.declared.member.Noted.{Noted as Kept}
use Rattle.disk_classes.specs.declared.members.Value.{Value}
use Rattle.disk_classes.proofs.Putting.{values_as, put_done, value_after}
use Rattle.disk_classes.proofs.members.Members.put.Goals as goal

pub returns-in_err-grow-clause-values : goal.returns-in_err-grow-clause-values
returns-in_err-grow-clause-values c = values_as c.args.self.now.noted c.args.self.now.values c.grow.new.values c.grow.ensures.same c.requires.values

pub returns-in_err-grow-clause-within : goal.returns-in_err-grow-clause-within
returns-in_err-grow-clause-within c = λ pages lt old p v e. old p v (sym (c.grow.ensures.same p) ∙ e)

pub note-requires-clause-values : goal.note-requires-clause-values
note-requires-clause-values c = values_as c.args.self.now.noted c.args.self.now.values c.grow.new.values c.grow.ensures.same c.requires.values

pub returns-in_err-note-clause-partition : goal.returns-in_err-note-clause-partition
returns-in_err-note-clause-partition c = subst ArePartition (sym c.in_err-note.ensures.err) c.requires.partition

pub returns-in_err-note-clause-values : goal.returns-in_err-note-clause-values
returns-in_err-note-clause-values c =
    subst (λ (l : List Kept). AreValues l c.note.new.self.values) (sym c.in_err-note.ensures.err)
    (subst (AreValues c.args.self.now.noted) (sym c.note.ensures.values) (values_as c.args.self.now.noted c.args.self.now.values c.grow.new.values c.grow.ensures.same c.requires.values))

pub returns-in_err-note-clause-within : goal.returns-in_err-note-clause-within
returns-in_err-note-clause-within c = λ pages lt old p v e.
    old p v (sym (c.grow.ensures.same p) ∙ sym (ap (λ (l : List (Option Value)). get_or l p None) c.note.ensures.values) ∙ e)

pub returns-in_err-note-clause-needed : goal.returns-in_err-note-clause-needed
returns-in_err-note-clause-needed c = ap needed_in c.in_err-note.ensures.err

pub returns-in_err-note-clause-err_values : goal.returns-in_err-note-clause-err_values
returns-in_err-note-clause-err_values c =
    let p = err_from_is_err_and c.from_residual-in_err-note.result c.from_residual-in_err-note.ensures.1 in
    rw p.1 (λ q. ap (λ (l : List (Option Value)). get_or l q None) c.note.ensures.values ∙ c.grow.ensures.same q)

pub returns-clause-partition : goal.returns-clause-partition
returns-clause-partition c =
    (put_done c.args.member c.args.page c.args.self.now.noted c.note.new.self.noted c.args.self.now.values c.grow.new.values (record { member = c.args.member; bytes = c.args.bytes })
    c.requires.partition c.requires.values c.requires.live c.in_ok-grow.ensures.room c.grow.ensures.same c.in_ok-note.ensures.ok refl).partition

pub returns-clause-values : goal.returns-clause-values
returns-clause-values c =
    subst (AreValues c.note.new.self.noted) (sym c.set.ensures)
    (subst (λ (l : List (Option Value)). AreValues c.note.new.self.noted (set l c.args.page (Some (record { member = c.args.member; bytes = c.args.bytes })))) (sym c.note.ensures.values)
    (put_done c.args.member c.args.page c.args.self.now.noted c.note.new.self.noted c.args.self.now.values c.grow.new.values (record { member = c.args.member; bytes = c.args.bytes })
    c.requires.partition c.requires.values c.requires.live c.in_ok-grow.ensures.room c.grow.ensures.same c.in_ok-note.ensures.ok refl).values_now)

pub returns-clause-within : goal.returns-clause-within
returns-clause-within c = λ pages lt old.
    subst (AreWithin pages) (sym c.set.ensures)
    (subst (λ (l : List (Option Value)). AreWithin pages (set l c.args.page (Some (record { member = c.args.member; bytes = c.args.bytes })))) (sym c.note.ensures.values)
    ((put_done c.args.member c.args.page c.args.self.now.noted c.note.new.self.noted c.args.self.now.values c.grow.new.values (record { member = c.args.member; bytes = c.args.bytes })
    c.requires.partition c.requires.values c.requires.live c.in_ok-grow.ensures.room c.grow.ensures.same c.in_ok-note.ensures.ok refl).within pages lt old))

pub returns-clause-put : goal.returns-clause-put
returns-clause-put c =
    (put_done c.args.member c.args.page c.args.self.now.noted c.note.new.self.noted c.args.self.now.values c.grow.new.values (record { member = c.args.member; bytes = c.args.bytes })
    c.requires.partition c.requires.values c.requires.live c.in_ok-grow.ensures.room c.grow.ensures.same c.in_ok-note.ensures.ok refl).put

pub returns-clause-value : goal.returns-clause-value
returns-clause-value c = λ p.
    ap (λ (l : List (Option Value)). bytes_in (get_or l p None)) c.set.ensures
    ∙ ap (λ (l : List (Option Value)). bytes_in (get_or (set l c.args.page (Some (record { member = c.args.member; bytes = c.args.bytes }))) p None)) c.note.ensures.values
    ∙ value_after c.args.page c.args.self.now.values c.grow.new.values (record { member = c.args.member; bytes = c.args.bytes }) c.in_ok-grow.ensures.room c.grow.ensures.same p

pub returns-clause-needed : goal.returns-clause-needed
returns-clause-needed c =
    (put_done c.args.member c.args.page c.args.self.now.noted c.note.new.self.noted c.args.self.now.values c.grow.new.values (record { member = c.args.member; bytes = c.args.bytes })
    c.requires.partition c.requires.values c.requires.live c.in_ok-grow.ensures.room c.grow.ensures.same c.in_ok-note.ensures.ok refl).needed

pub returns-in_err-note-clause-size : goal.returns-in_err-note-clause-size
returns-in_err-note-clause-size c = ap length c.in_err-note.ensures.err

pub returns-clause-size : goal.returns-clause-size
returns-clause-size c =
    (put_done c.args.member c.args.page c.args.self.now.noted c.note.new.self.noted c.args.self.now.values c.grow.new.values (record { member = c.args.member; bytes = c.args.bytes })
    c.requires.partition c.requires.values c.requires.live c.in_ok-grow.ensures.room c.grow.ensures.same c.in_ok-note.ensures.ok refl).size
