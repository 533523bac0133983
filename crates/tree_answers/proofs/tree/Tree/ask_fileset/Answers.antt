use Rattle.std.proofs.Common.{◌≡◌, Some, subst, sym, ap, ◌∙◌, rules}
use Rattle.std.specs.Prelude.{slice_set, IfOk}
use Rattle.tree_calls.specs.Rosters.{user_of}
use Rattle.tree_answers.specs.Finding.{Answer}
use Rattle.tree_answers.proofs.Asked.{asked, on_ok}
use Rattle.tree_answers.proofs.tree.Tree.ask_fileset.Goals as goal

pub returns-in-Some-clause-reply : goal.returns-in-Some-clause-reply
returns-in-Some-clause-reply c =
    let acts : user_of c.args.self.now.roster c.args.host ≡ Some c.in-Some.user.now = search rules in
    let whole = asked c.args.self.now c.args.host c.args.call.now c.in-Some.user.now c.args.place c.get_mut.result.now acts c.requires.decided c.requires.within c.get_mut.ensures.value in
    subst (λ (a : Answer). IfOk c.answer.result (λ reply. reply ≡ a.reply)) (sym whole) c.answer.ensures.reply

pub returns-in-Some-clause-tree : goal.returns-in-Some-clause-tree
returns-in-Some-clause-tree c =
    let acts : user_of c.args.self.now.roster c.args.host ≡ Some c.in-Some.user.now = search rules in
    let whole = asked c.args.self.now c.args.host c.args.call.now c.in-Some.user.now c.args.place c.get_mut.result.now acts c.requires.decided c.requires.within c.get_mut.ensures.value in
    on_ok c.answer.result _ _ (λ e. ap (λ f. record c.args.self.now { filesets = slice_set c.args.self.now.filesets c.args.place f }) e ∙ sym (ap (λ (a : Answer). a.tree) whole)) c.answer.ensures.after
