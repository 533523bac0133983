-- Each fileset that a server keeps is where it was made; so what a use wants is of a fileset that is here.
use Rattle.std.proofs.Common.{◌≡◌, ◌==◌, ℕ, Bool, true, false, List, [], ◌∷◌, Option, None, Some, inl, inr, ◌/◌}
use Rattle.std.proofs.Common.{refl, sym, ◌∙◌, ap, eqb-true, eq-eqb}
use Rattle.std.specs.List.{find, list_all}
use Rattle.std.specs.Option.{option_map_or}
use Rattle.std.specs.Prelude.{if◌then◌else◌, is_some}
use Rattle.std.proofs.lemmas.Bool.{and_parts}
use Rattle.base_types.specs.declared.ids.Fid.{Fid}
use Rattle.base_types.specs.declared.ids.FilesetId.{FilesetId}
use Rattle.base_types.specs.declared.ids.HostId.{HostId}
use Rattle.base_types.specs.declared.user.User.{User}
use Rattle.tree_answers.specs.Finding.{has_id}
use Rattle.tree_answers.specs.declared.tree.Tree.{Tree}
use Rattle.tree_calls.specs.Rosters.{user_of}
use Rattle.tree_filesets.specs.declared.fileset.Fileset.{Fileset}
use Rattle.tree_laws.specs.Parts.{cell_at, cell_in}
use Rattle.tree_laws.specs.Parts.Part.{Traits}
use Rattle.token_types.specs.declared.token.Need.{Need}
use Rattle.message_types.specs.declared.asking.Change.{Change as ChangeOf}
use Rattle.need_server.specs.Wants.{want}
use Rattle.need_server.proofs.WantsThere.{wants_are_there}
use Rattle.server_decides.specs.Changes.{are_home, is_home}
use Rattle.run_rules.specs.Messages.{home}
use Rattle.run_rules.specs.Past.{In}
use Rattle.run_rules.specs.Wants.{row_needs}
use Rattle.server_decides.specs.StoreKeeping.{StandsFor}
use Rattle.store_state.specs.declared.state.StoreState.{StoreState}
use Rattle.server_tables.specs.Places.{is_of}

all_of : {A : Type 0} (p : A → Bool) (xs : List A) → list_all p xs ≡ true → (x : A) → In x xs → p x ≡ true
all_of p [] e x i = elim i [ ]
all_of p (y ∷ ys) e x (inl q) = ap p q ∙ (and_parts (p y) (list_all p ys) e).0
all_of p (y ∷ ys) e x (inr i) = all_of p ys (and_parts (p y) (list_all p ys) e).1 x i

-- what is found
its_id : (id : FilesetId) (fs : List Fileset) → is_some (find (has_id id) fs) ≡ true
    → (f : Fileset) × In f fs × (f.id.0 ≡ id.0)
its_id id [] e = absurd (cc)
its_id id (f ∷ fs) e = by (its_id id fs) (has_id id f) refl e
  where
    by : (is_some (find (has_id id) fs) ≡ true → (g : Fileset) × In g fs × (g.id.0 ≡ id.0)) → (b : Bool)
        → has_id id f ≡ b → is_some (find (has_id id) (f ∷ fs)) ≡ true
        → (g : Fileset) × In g (f ∷ fs) × (g.id.0 ≡ id.0)
    by rest true q e = (f, inl refl, eqb-true f.id.0 id.0 q)
    by rest false q e = let r = rest (let s = rw q at e in s) in (r.0, inr r.1, r.2)

there_in : (o : Option Fileset) (fid : Fid) → is_some (cell_in o fid Traits).kept ≡ true → is_some o ≡ true
there_in None fid e = absurd (cc)
there_in (Some f) fid e = refl

module _ (tree : Tree) (state : StoreState) (k : StandsFor tree state) (homes : are_home tree ≡ true) where
  -- a fileset that is kept was made here
  kept_here : (f : Fileset) → In f tree.filesets → is_of state.server f.id ≡ true
  unfolding home
  kept_here f i =
      let a : f.server.0 ≡ f.id.0 / 65536 =
      eqb-true f.server.0 (f.id.0 / 65536) (all_of is_home tree.filesets homes f i) in
      let b : f.server.0 ≡ state.server.0 = eqb-true f.server.0 state.server.0
      (all_of (λ (g : Fileset). g.server.0 == state.server.0) tree.filesets k.is_of.own f i) in
      eq-eqb (f.id.0 / 65536) state.server.0 (sym a ∙ b)

  wanted_here : (user : User) (c : ChangeOf) (need : Need) → In need (want tree user c.call)
      → is_of state.server need.fid.fileset ≡ true
  wanted_here user c need i =
      let t = all_of (λ (n : Need). is_some (cell_at tree n.fid Traits).kept) (want tree user c.call)
      (wants_are_there tree user c.call k.formed) need i in
      let r = its_id need.fid.fileset tree.filesets
      (there_in (find (has_id need.fid.fileset) tree.filesets) need.fid t) in
      ap (λ (n : ℕ). (n / 65536) == state.server.0) (sym r.2) ∙ kept_here r.0 r.1

  -- what a Change needs is of filesets that are here
  pub row_here : (host : HostId) (c : ChangeOf) (need : Need) → In need (row_needs tree host c)
      → is_of state.server need.fid.fileset ≡ true
  row_here host c need i = by c.enter (user_of tree.roster host) i
    where
      by : (b : Bool) (o : Option User)
          → In need (if b then [] else option_map_or (λ (user : User). want tree user c.call) o [])
          → is_of state.server need.fid.fileset ≡ true
      by true o i = elim i [ ]
      by false None i = elim i [ ]
      by false (Some user) i = wanted_here user c need i
