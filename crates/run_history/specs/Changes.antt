-- A tree that agrees with what a server keeps, where the server decides a Change. Doings have the newest first.
use Rattle.std.specs.List.{list_all}
use Rattle.std.specs.Prelude.{ℕ, List, Some, [], false, true, ◌==◌, ◌∷◌, ◌≡◌, Bool}
use Rattle.base_types.specs.declared.ids.Fid.{Fid}
use Rattle.base_types.specs.declared.ids.Node.TheVariants.{Server}
use Rattle.base_types.specs.declared.ids.ServerId.{ServerId}
use Rattle.tree_filesets.specs.declared.fileset.Fileset.{Fileset}
use Rattle.need_host.specs.Questions.{is_change}
use Rattle.tree_answers.specs.Answers.{answer_to}
use Rattle.tree_answers.specs.WellFormed.{IsWellFormed}
use Rattle.tree_answers.specs.declared.tree.Tree.{Tree}
use Rattle.need_server.specs.Kept.{kept_tree}
use Rattle.script_lines.specs.declared.script.Script.{Script}
use Rattle.need_laws.specs.Idle.{minds_uses}
use Rattle.need_laws.specs.Known.{IsAt, SameAt}
use Rattle.token_types.specs.declared.token.Token.{Token}
use Rattle.tree_laws.specs.Parts.{Part, Seen, Written as Unsaved, cell_at}
use Rattle.run_rules.specs.Doings.{Doing, Granted, NoGrace, after_cause, decisions_of, doings_of}
use Rattle.run_rules.specs.Doings.Doing.{WritesDown}
use Rattle.run_rules.specs.Kept.{filesets_after, filesets_kept, filesets_through}
use Rattle.run_rules.specs.Messages.{home}
use Rattle.run_rules.specs.Past.{Always, appended}
use Rattle.run_rules.specs.Runs.{IsRun, firsts_of, past_of}
use Rattle.run_rules.specs.ServerDecides.{by_cause, decisions}
use Rattle.run_rules.specs.Steps.{steps_of_server}
use Rattle.run_rules.specs.declared.applied.Applied.TheVariants.{Done}
use Rattle.run_rules.specs.declared.journal.Journal.{Journal}
use Rattle.run_parts.specs.Cells.{cell_after}
use Rattle.run_parts.specs.Contents.{OverUpdate, site}
use Rattle.run_contents.specs.Doing.{writes}
use Rattle.run_rules.specs.declared.applied.Applied.{Applied}
use Rattle.run_rules.specs.declared.applied.Written.{Written}
use Rattle.run_rules.specs.declared.step.Cause.{Cause}
use Rattle.run_rules.specs.declared.step.Step.{Step}

-- whether each fileset of a tree is where it was made
abbrev pub is_home : Fileset → Bool
is_home fileset = fileset.server.0 == (home fileset.id).0

abbrev pub are_home : Tree → Bool
are_home tree_is = list_all is_home tree_is.filesets

-- A tree agrees with what a server keeps: it is well formed, no fileset has moved, and of the server it has kept just
-- that; and when no grace period is on, what is unsaved of the server's files is under granted tokens for update.
pub record AgreesKept (v : ServerId) (past : List Doing) (kept_is tree_is : Tree) : Type 0 where
  pub formed : IsWellFormed tree_is
  pub unmoved : tree_is.away ≡ []
  pub homes : are_home tree_is ≡ true
  pub kept_homes : are_home kept_is ≡ true
  pub own : list_all (λ fileset. fileset.server.0 == v.0) kept_is.filesets ≡ true
  pub locks : kept_is.locks ≡ []
  pub opens : kept_is.opens ≡ []
  pub same : SameAt v kept_is (kept_tree tree_is)
  pub granted : NoGrace past → (f : Fid) (p : Part) (u : Unsaved (Seen p)) → site f ≡ v
      → (cell_at tree_is f p).unsaved ≡ Some u → (t : Token) × Granted v past t × OverUpdate t f p

-- A Change that is written down: a call of this server that looks at no locks and open files.
pub record IsMeant (v : ServerId) (x : Written) : Type 0 where
  pub change : is_change x.answer.call ≡ true
  pub minds_none : minds_uses x.answer.call ≡ false
  pub here : IsAt v x.answer.call

-- It is legal: its reply is the tree's. What the server keeps then is what is kept of the tree then, and the cells of
-- the server's files are those that the doing leaves.
pub record IsLegalChange (v : ServerId) (cause : Cause) (kept_is : Tree) (x : Written) (tree_is : Tree) : Type 0 where
  pub reply : x.answer.reply ≡ (answer_to tree_is x.answer.host x.answer.call).reply
  pub same : SameAt v (filesets_after cause kept_is (Done x))
      (kept_tree (answer_to tree_is x.answer.host x.answer.call).tree)
  pub homes : are_home (answer_to tree_is x.answer.host x.answer.call).tree ≡ true
  pub cells : (f : Fid) (p : Part) → site f ≡ v → cell_at (answer_to tree_is x.answer.host x.answer.call).tree f p
      ≡ cell_after p (writes cause kept_is x f p) (cell_at tree_is f p)

-- so it is with each Change of some decisions, one after the other: `kept_is` is what the server keeps before them,
-- `past` its doings
abbrev pub EachChange : (List Doing → Tree → Written → Type 0) → Cause → Tree → List Doing → List Applied → Type 0
EachChange Holds cause kept_is past [] = Unit {0}
EachChange Holds cause kept_is past (Done x ∷ xs) =
    Holds past kept_is x × EachChange Holds cause (filesets_after cause kept_is (Done x)) (WritesDown x ∷ past) xs
EachChange Holds cause kept_is past (other ∷ xs) =
    EachChange Holds cause (filesets_after cause kept_is other) (appended (decisions_of other) past) xs

abbrev pub DecidesLegally : Tree → (ServerId → ℕ) → List Step → Step → Type 0
DecidesLegally start firsts past s =
    (v : ServerId) → s.node ≡ Server v
    → EachChange (λ before kept_is x. (tree_is : Tree) → AgreesKept v before kept_is tree_is → IsMeant v x
    → IsLegalChange v s.cause kept_is x tree_is) s.cause
    (filesets_through s.cause (by_cause s.applied) (filesets_kept start v (steps_of_server v past)))
    (after_cause s.cause (doings_of (firsts v) v past)) (decisions s.applied)

abbrev pub ServersDecideLegally : Type 0
ServersDecideLegally =
    (script : Script) (journal : Journal) (run : IsRun script journal)
    → Always (DecidesLegally run.start (firsts_of journal)) (past_of journal)
