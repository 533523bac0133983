-- In a run no fileset moves: not of what servers keep, and so not of a tree of which that is kept.
use Rattle.std.proofs.Common.{Bool, List, Option, ap, false, refl, subst, suc, sym, true, zero, ℕ, ◌&&◌, ◌==◌, ◌∙◌}
use Rattle.std.proofs.Common.{◌∷◌, ◌≡◌}
use Rattle.std.proofs.lemmas.Bool.{and_parts}
use Rattle.std.specs.List.{list_all}
use Rattle.std.specs.Prelude.{[], filter, if◌then◌else◌, map}
use Rattle.base_types.specs.Lists.{changed_at}
use Rattle.base_types.specs.declared.ids.Fid.{Fid}
use Rattle.base_types.specs.declared.ids.Node.{Node}
use Rattle.base_types.specs.declared.ids.Node.TheVariants.{Host, Server}
use Rattle.base_types.specs.declared.ids.ServerId.{ServerId}
use Rattle.tree_calls.specs.declared.call.Call.{Call}
use Rattle.tree_calls.specs.declared.call.Call.TheVariants.{MoveFileset}
use Rattle.tree_calls.specs.declared.part.Piece.{Piece}
use Rattle.tree_filesets.specs.Updates.{changed, updated}
use Rattle.tree_filesets.specs.declared.fileset.Fileset.{Fileset}
use Rattle.tree_objects.specs.declared.content.Content.{Content}
use Rattle.tree_answers.specs.Answers.{answer_to}
use Rattle.tree_answers.specs.Stores.{place_with_id}
use Rattle.tree_answers.specs.declared.tree.Away.{Away}
use Rattle.tree_answers.specs.declared.tree.Tree.{Tree}
use Rattle.need_server.specs.Kept.{kept_fileset, kept_tree}
use Rattle.need_laws.specs.Known.{IsAt, SameAt, is_record_of}
use Rattle.tree_laws.proofs.Steps.{same_number}
use Rattle.run_history.proofs.Homes.{homes_after}
use Rattle.run_history.specs.Changes.{EachChange, is_home}
use Rattle.run_history.proofs.Keeping.{all_mapped, filter_mapped, filter_some, is_its, its_filesets, no_records}
use Rattle.run_history.proofs.Moves.{never_after, never_moved}
use Rattle.run_contents.proofs.Keeping.{split}
use Rattle.run_rules.specs.Doings.{Doing, after_cause, doings_of}
use Rattle.run_rules.specs.Doings.Doing.{MakesWant, Moves, WritesDown}
use Rattle.run_rules.specs.Kept.{content_given, filesets_after, filesets_kept, filesets_through, is_refusal, pieces_in}
use Rattle.run_rules.specs.Kept.{takes_gifts, tree_given}
use Rattle.run_rules.specs.Past.{Always}
use Rattle.run_rules.specs.ServerDecides.{by_cause, decisions}
use Rattle.run_rules.specs.Steps.{is_node, steps_of_server}
use Rattle.run_rules.specs.Wants.{moves_fileset}
use Rattle.run_rules.specs.declared.applied.Applied.TheVariants.{Done as IsDone, IsDown, Replied, Stored}
use Rattle.run_rules.specs.declared.applied.Applied.TheVariants.{Moves as IsMoved, Wants as IsWanted}
use Rattle.run_tokens.proofs.Words.{if_server}
use Rattle.run_rules.specs.declared.applied.Applied.{Applied}
use Rattle.run_rules.specs.declared.applied.Written.{Written}
use Rattle.run_rules.specs.declared.step.Cause.{Cause}
use Rattle.run_rules.specs.declared.step.Step.{Step}
use Rattle.run_history.specs.Meant.{DecidesMeant, MeantSo}
use Rattle.run_history.specs.Meant.MeantSo.{Decides, Refuses}

-- each fileset is where it was made, and never moved
abbrev pub Unmoved : Tree → Type 0
Unmoved K = (list_all is_home K.filesets ≡ true) × (list_all never_moved K.filesets ≡ true)

-- what a give-back leaves
all_changed : (p : Fileset → Bool) (change : Fileset → Fileset) → ((x : Fileset) → p (change x) ≡ p x)
    → (xs : List Fileset) (place : ℕ) → list_all p (changed_at xs place change) ≡ list_all p xs
all_changed p change same [] place = refl
all_changed p change same (x ∷ xs) zero = ap (λ (b : Bool). b && list_all p xs) (same x)
all_changed p change same (x ∷ xs) (suc place) = ap (λ (b : Bool). p x && b) (all_changed p change same xs place)

changed_home : (anode : ℕ) (change : Content → Content) (x : Fileset) → is_home (changed x anode change) ≡ is_home x
unfolding updated
changed_home anode change x = refl

changed_never : (anode : ℕ) (change : Content → Content) (x : Fileset)
    → never_moved (changed x anode change) ≡ never_moved x
unfolding updated
changed_never anode change x = refl

given_all : (p : Fileset → Bool)
    → ((anode : ℕ) (change : Content → Content) (x : Fileset) → p (changed x anode change) ≡ p x)
    → (tree : Tree) (fid : Fid) (pieces : List Piece) (given : Option ℕ) → list_all p tree.filesets ≡ true
    → list_all p (tree_given tree fid pieces given).filesets ≡ true
unfolding tree_given
given_all p same tree fid pieces given e = go (takes_gifts tree fid)
  where
    xs : List Fileset
    xs = changed_at tree.filesets (place_with_id tree.filesets fid.fileset)
        (λ fileset. changed fileset fid.anode (content_given pieces given))

    go : (b : Bool) → list_all p (if b then record tree { filesets = xs } else tree).filesets ≡ true
    go true =
        all_changed p (λ fileset. changed fileset fid.anode (content_given pieces given))
        (same fid.anode (content_given pieces given)) tree.filesets (place_with_id tree.filesets fid.fileset) ∙ e
    go false = e

given_unmoved : (tree : Tree) (fid : Fid) (pieces : List Piece) (given : Option ℕ) → Unmoved tree
    → Unmoved (tree_given tree fid pieces given)
given_unmoved tree fid pieces given e = (
  given_all is_home changed_home tree fid pieces given e.0,
  given_all never_moved changed_never tree fid pieces given e.1,
)

-- what a Change leaves
not_move : (v : ServerId) (c : Call) → IsAt v c → moves_fileset c ≡ false
not_move v (MoveFileset server name to) at = elim at [ ]
not_move v _ at = refl

done_unmoved : (v : ServerId) (cause : Cause) (S : List Doing) (K : Tree) (x : Written) → MeantSo v cause S K x
    → Unmoved K → Unmoved (filesets_after cause K (IsDone x))
done_unmoved v cause S K x (Refuses refused legal) e =
    subst (λ (b : Bool). Unmoved (if b then K else (answer_to K x.answer.host x.answer.call).tree)) (sym refused) e
done_unmoved v cause S K x (Decides change at) e = go (is_refusal x.answer.reply)
  where
    stays : moves_fileset x.answer.call ≡ false
    stays = not_move v x.answer.call at

    go : (b : Bool) → Unmoved (if b then K else (answer_to K x.answer.host x.answer.call).tree)
    go true = e
    go false = (
      homes_after K e.0 x.answer.host x.answer.call stays,
      never_after K e.1 x.answer.host x.answer.call stays,
    )

cause_unmoved : (cause : Cause) (xs : List Applied) (K : Tree) → Unmoved K
    → Unmoved (filesets_through cause (by_cause xs) K)
cause_unmoved cause [] K e = e
cause_unmoved cause (Stored h f ss n ∷ xs) K e =
    cause_unmoved cause xs (tree_given K f (pieces_in cause) n) (given_unmoved K f (pieces_in cause) n e)
cause_unmoved cause (Replied x ∷ xs) K e = cause_unmoved cause xs K e
cause_unmoved cause (IsDown h ∷ xs) K e = cause_unmoved cause xs K e
cause_unmoved cause (IsMoved move ∷ xs) K e = cause_unmoved cause xs K e
cause_unmoved cause (IsWanted x ∷ xs) K e = e
cause_unmoved cause (IsDone x ∷ xs) K e = e

decided_unmoved : (v : ServerId) (cause : Cause) (xs : List Applied) (S : List Doing) (K : Tree)
    → EachChange (MeantSo v cause) cause K S xs → Unmoved K → Unmoved (filesets_through cause xs K)
decided_unmoved v cause [] S K meant e = e
decided_unmoved v cause (IsDone x ∷ xs) S K meant e =
    decided_unmoved v cause xs (WritesDown x ∷ S) (filesets_after cause K (IsDone x)) meant.1
    (done_unmoved v cause S K x meant.0 e)
decided_unmoved v cause (IsWanted x ∷ xs) S K meant e = decided_unmoved v cause xs (MakesWant x ∷ S) K meant e
decided_unmoved v cause (Stored h f ss n ∷ xs) S K meant e =
    decided_unmoved v cause xs S (tree_given K f (pieces_in cause) n) meant
    (given_unmoved K f (pieces_in cause) n e)
decided_unmoved v cause (Replied x ∷ xs) S K meant e = decided_unmoved v cause xs S K meant e
decided_unmoved v cause (IsDown h ∷ xs) S K meant e = decided_unmoved v cause xs S K meant e
decided_unmoved v cause (IsMoved move ∷ xs) S K meant e = decided_unmoved v cause xs (Moves move ∷ S) K meant e

-- what servers keep
module _ (start : Tree) (firsts : ServerId → ℕ) (first : Unmoved start) where
  step_unmoved : (past : List Step) (s : Step) (v : ServerId) → s.node ≡ Server v → DecidesMeant start firsts past s
      → Unmoved (filesets_kept start v (steps_of_server v past)) → Unmoved (filesets_through s.cause s.applied (filesets_kept start v (steps_of_server v past)))
  step_unmoved past s v node meant e =
      let K = filesets_kept start v (steps_of_server v past) in
      subst Unmoved (sym (split s.cause s.applied K))
      (decided_unmoved v s.cause (decisions s.applied) (after_cause s.cause (doings_of (firsts v) v past))
      (filesets_through s.cause (by_cause s.applied) K) (meant v node) (cause_unmoved s.cause s.applied K e))

  node_unmoved : (n : Node) (past : List Step) (s : Step)
      → ((v : ServerId) → n ≡ Server v → Unmoved (filesets_through s.cause s.applied (filesets_kept start v (steps_of_server v past))))
      → (v : ServerId) → Unmoved (filesets_kept start v (steps_of_server v past))
      → Unmoved (filesets_kept start v (if is_node n (Server v) then s ∷ steps_of_server v past else steps_of_server v past))
  node_unmoved (Host h) past s new v old = old
  node_unmoved (Server k) past s new v old =
      if_server (λ L. Unmoved (filesets_kept start v L)) k v (s ∷ steps_of_server v past) (steps_of_server v past)
      (λ e. new v (λ i. Server (e i))) old

  pub kept_unmoved : (past : List Step) → Always (DecidesMeant start firsts) past → (v : ServerId)
      → Unmoved (filesets_kept start v (steps_of_server v past))
  kept_unmoved [] meant v = (
    filter_some is_home (λ (fileset : Fileset). fileset.server.0 == v.0) start.filesets first.0,
    filter_some never_moved (λ (fileset : Fileset). fileset.server.0 == v.0) start.filesets first.1,
  )
  kept_unmoved (s ∷ past) meant v =
      node_unmoved s.node past s (λ w node. step_unmoved past s w node meant.1 (kept_unmoved past meant.0 w)) v
      (kept_unmoved past meant.0 v)

-- a tree of which servers keep that
no_away : (kept_of : ServerId → Tree) (t : Tree) → ((v : ServerId) → SameAt v (kept_of v) (kept_tree t))
    → ((v : ServerId) → (kept_of v).away ≡ []) → (xs : List Away) → t.away ≡ xs → xs ≡ []
no_away kept_of t same none [] e = refl
no_away kept_of t same none (a ∷ others) e = absurd (two gone)
  where
    v : ServerId
    v = a.server

    gone : filter (is_record_of v) (a ∷ others) ≡ []
    gone =
        ap (λ xs. filter (is_record_of v) xs) (sym e)
        ∙ (sym (same v).records ∙ no_records v (kept_of v) (none v))

    two : filter (is_record_of v) (a ∷ others) ≡ [] → ⊥
    two q =
        let one : (a ∷ filter (is_record_of v) others) ≡ [] =
        ap (λ (b : Bool). if b then a ∷ filter (is_record_of v) others else filter (is_record_of v) others)
        (sym (same_number v.0))
        ∙ q in cc

pub unmoved_tree : (kept_of : ServerId → Tree) (t : Tree) → ((v : ServerId) → SameAt v (kept_of v) (kept_tree t))
    → ((v : ServerId) → (kept_of v).away ≡ []) → t.away ≡ []
unmoved_tree kept_of t same none = no_away kept_of t same none t.away refl

of_each : (p : Fileset → Bool) (xs : List Fileset)
    → ((v : ServerId) → list_all p (filter (is_its v) xs) ≡ true) → list_all p xs ≡ true
of_each p [] all = refl
of_each p (x ∷ xs) all = λ i. here i && of_each p xs others i
  where
    here : p x ≡ true
    here =
        (and_parts (p x) (list_all p (filter (is_its x.server) xs))
        (ap (λ (b : Bool). list_all p (if b then x ∷ filter (is_its x.server) xs else filter (is_its x.server) xs))
        (sym (same_number x.server.0))
        ∙ all x.server)).0

    others : (v : ServerId) → list_all p (filter (is_its v) xs) ≡ true
    others v = go (is_its v x) (all v)
      where
        go : (b : Bool) → list_all p (if b then x ∷ filter (is_its v) xs else filter (is_its v) xs) ≡ true
            → list_all p (filter (is_its v) xs) ≡ true
        go true e = (and_parts (p x) (list_all p (filter (is_its v) xs)) e).1
        go false e = e

module _ (kept_of : ServerId → Tree) (t : Tree) (same : (v : ServerId) → SameAt v (kept_of v) (kept_tree t))
    (none : (v : ServerId) → (kept_of v).away ≡ []) where
  its_all : (p : Fileset → Bool) → ((x : Fileset) → p (kept_fileset x) ≡ p x) → (v : ServerId)
      → list_all p (kept_of v).filesets ≡ true → list_all p (filter (is_its v) t.filesets) ≡ true
  its_all p alike v e =
      let K = kept_of v in
      let ys = filter (is_its v) t.filesets in
      let lists : filter (is_its v) K.filesets ≡ map kept_fileset ys =
      sym (its_filesets v K (none v))
      ∙ ((same v).filesets
      ∙ (its_filesets v (kept_tree t) (unmoved_tree kept_of t same none)
      ∙ filter_mapped (is_its v) (is_its v) kept_fileset (λ x. refl) t.filesets)) in
      sym (all_mapped p p kept_fileset alike ys)
      ∙ (ap (λ xs. list_all p xs) (sym lists) ∙ filter_some p (is_its v) K.filesets e)

  pub tree_unmoved : ((v : ServerId) → Unmoved (kept_of v)) → Unmoved t
  tree_unmoved all = (
    of_each is_home t.filesets (λ v. its_all is_home (λ x. refl) v (all v).0),
    of_each never_moved t.filesets (λ v. its_all never_moved (λ x. refl) v (all v).1),
  )
