-- What a server decides on what it keeps is what the tree decides.
use Rattle.std.proofs.Common.{◌≡◌, ℕ, nat_lt, ◌&&◌, List, [], ◌∷◌, refl, ap, ◌∙◌, subst}
use Rattle.std.specs.Prelude.{map}
use Rattle.std.specs.List.{list_all}
use Rattle.tree_filesets.specs.declared.fileset.Fileset.{Fileset}
use Rattle.tree_answers.specs.Answers.{answer_to}
use Rattle.tree_answers.specs.WellFormed.{ids_rise}
use Rattle.need_server.proofs.Alike.{changes_are_alike}
use Rattle.need_server.proofs.WantsKept.{wants_are_kept}
use Rattle.need_server.specs.Kept.{kept_answer, kept_fileset, kept_tree}
use Rattle.need_server.specs.Laws.{NothingUnsaved}
use Rattle.need_server.specs.Wants.{want}
use Rattle.need_laws.specs.Decided.{ServersDecideAlike}
use Rattle.need_laws.specs.Idle.{idle, idle_answer}
use Rattle.need_laws.specs.Laws.{AnswersSame}
use Rattle.need_laws.proofs.Idle.{others_mind_no_uses}
use Rattle.need_laws.proofs.Same.{calls_hang_on_their_server}
use Rattle.need_laws.proofs.Wanted.{wants_hang_on_their_server}

all_kept : (id : ℕ) (xs : List Fileset) → list_all (λ other. nat_lt id other.id.0) (map kept_fileset xs) ≡ list_all (λ other. nat_lt id other.id.0) xs
all_kept id [] = refl
all_kept id (x ∷ xs) = ap (λ t. nat_lt id x.id.0 && t) (all_kept id xs)

pub rise_kept : (xs : List Fileset) → ids_rise (map kept_fileset xs) ≡ ids_rise xs
rise_kept [] = refl
rise_kept (x ∷ xs) = ap (λ t. t && ids_rise (map kept_fileset xs)) (all_kept x.id.0 xs) ∙ ap (λ t. list_all (λ other. nat_lt x.id.0 other.id.0) xs && t) (rise_kept xs)

pub servers_decide_alike : ServersDecideAlike
servers_decide_alike server kept tree host user call w rises same none_locked none_open acts change at minds saved =
    let wanted : want kept user call ≡ want tree user call = wants_hang_on_their_server kept (kept_tree tree) server user call same at ∙ wants_are_kept tree user call in
    let alike = changes_are_alike tree host user call w acts change (subst (NothingUnsaved tree) wanted saved) in
    let its = calls_hang_on_their_server kept (idle (kept_tree tree)) server host call rises (rise_kept tree.filesets ∙ w.ordered)
    (record { roster = same.roster; room = same.room; filesets = same.filesets; records = same.records }) (record { locks = none_locked; opens = none_open }) at in
    let one : answer_to (idle (kept_tree tree)) host call ≡ idle_answer (kept_answer (answer_to tree host call)) = others_mind_no_uses (kept_tree tree) host call minds ∙ ap idle_answer alike in
    let so : AnswersSame server (answer_to kept host call) (idle_answer (kept_answer (answer_to tree host call))) = subst (λ x. AnswersSame server (answer_to kept host call) x) one its in
    (so.reply, record { roster = so.left.roster; room = so.left.room; filesets = so.left.filesets; records = so.left.records })
