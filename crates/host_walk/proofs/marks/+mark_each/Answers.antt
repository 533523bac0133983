use Rattle.std.proofs.Common.{ap, ◌∙◌, [], ◌∷◌}
use Rattle.host_cache.specs.Seen.{seen}
use Rattle.host_walk.specs.Marks.{used_all}
use Rattle.host_walk.specs.Trying.{status_need, whole_need}
use Rattle.host_walk.specs.Views.{view_of}
use Rattle.host_walk.proofs.Marking.{marks_lead}
use Rattle.host_walk.proofs.marks.+mark_each.Goals as goal

pub returns-in-Leads : goal.returns-in-Leads
returns-in-Leads t c =
    c.mark_dir-in-Leads.ensures
    ∙ ap (used_all (status_need c.args.at ∷ whole_need c.args.at ∷ [])) c.mark_each.ensures
    ∙ marks_lead (view_of c.args.cache.now) c.args.user.now c.args.needs.now c.args.at c.args.path.now
    (seen c.args.cache.now) c.in-Some.name.now c.in-Some.rest.now c.in-Some.ensures.cases.0 c.in-Leads.fid
    c.in-Leads.ensures
