-- A server's deeds in a step of a run meet the rules of contents.
use Rattle.std.proofs.Common.{Bool, List, None, Option, Some, [], ap, arith, false, inl, inr, refl, subst, sym, true}
use Rattle.std.proofs.Common.{ℕ, ◌∙◌, ◌∷◌, ◌≡◌, ◌⊎◌}
use Rattle.std.proofs.lemmas.Bool.{and_parts, false≢true}
use Rattle.std.specs.List.{list_all}
use Rattle.std.specs.Option.{option_map_or}
use Rattle.std.specs.Prelude.{if◌then◌else◌, is_some}
use Rattle.base_types.specs.declared.ids.Fid.{Fid}
use Rattle.base_types.specs.declared.ids.FilesetId.{FilesetId}
use Rattle.base_types.specs.declared.ids.HostId.{HostId}
use Rattle.base_types.specs.declared.ids.ServerId.{ServerId}
use Rattle.base_types.specs.declared.user.User.{User}
use Rattle.tree_calls.specs.Rosters.{user_of}
use Rattle.need_host.specs.Looks.{kept_view}
use Rattle.need_host.specs.Shows.{shows}
use Rattle.need_host.specs.Walks.{root_of}
use Rattle.tree_answers.specs.WellFormed.{IsWellFormed}
use Rattle.tree_answers.specs.declared.tree.Tree.{Tree}
use Rattle.need_server.proofs.WantsThere.{wants_are_there}
use Rattle.need_server.specs.Wants.{want}
use Rattle.message_types.specs.declared.asking.Change.{Change as ChangeOf}
use Rattle.message_types.specs.declared.asking.Fetch.{Fetch as FetchOf}
use Rattle.message_types.specs.declared.message.Body.{Body}
use Rattle.message_types.specs.declared.message.Body.TheVariants.{Done, Down, Fetch, GiveBack, Grant}
use Rattle.message_types.specs.declared.telling.Bring.{Bring}
use Rattle.message_types.specs.declared.telling.Done.{Done as DoneOf}
use Rattle.message_types.specs.declared.telling.Grant.{Grant as GrantOf}
use Rattle.token_types.specs.Conflicts.{need_of}
use Rattle.token_types.specs.declared.token.Need.{Need}
use Rattle.token_types.specs.declared.token.Token.{Token}
use Rattle.tree_laws.specs.Parts.{Nature, Part, cell_at}
use Rattle.tree_laws.specs.Parts.Part.{Traits}
use Rattle.run_rules.specs.Doings.{BringsTokens, Doing, Granted, Issued, SentTo, TookNow, epoch}
use Rattle.run_rules.specs.Doings.Doing.{Sent, Took}
use Rattle.run_rules.specs.Messages.{home}
use Rattle.run_rules.specs.Past.{In}
use Rattle.run_rules.specs.ServerMay.{AnsweredSo, DoneFor, GrantsSo, MaySend}
use Rattle.run_rules.specs.ServerMay.AnsweredSo.{IsEntered, NamesOther, TakesToken}
use Rattle.run_rules.specs.ServerMay.DoneFor.{Answered, OfWritten, Repeated, TakenBack}
use Rattle.run_rules.specs.ServerTokens.{MayBring, ServerTokens}
use Rattle.run_rules.specs.Views.{part_told}
use Rattle.run_rules.specs.Wants.{body_of, row_needs}
use Rattle.run_parts.specs.Cells.Does.{Loses, Nothing, Sets, Stores}
use Rattle.run_parts.specs.Contents.{AreAlike, Contents, HaveRoots, IsThere, ServerShows, kept, site}
use Rattle.run_parts.specs.Deeds.{Deed, acts_in}
use Rattle.run_contents.proofs.Words.{one_needed}
use Rattle.run_contents.proofs.Alike.{filesets_are_alike}
use Rattle.run_contents.proofs.Grants.{AllTaken}
use Rattle.run_contents.proofs.Sends.{one_sent}
use Rattle.run_contents.specs.Doing.{does_nothing}
use Rattle.run_contents.specs.Gives.{IsKept}
use Rattle.run_tokens.proofs.Words.{made_at}
use Rattle.run_rules.specs.declared.applied.Request.{Request}
use Rattle.run_rules.specs.declared.applied.Wanted.{Wanted}
use Rattle.run_tokens.specs.Unmoved.{StaysPut}
use Rattle.run_rules.specs.declared.step.Step.{Step}

-- what two doings of the rest of a step, one after the other, are
module _ (c : Contents) (v : ServerId) where
  -- what is kept is what the kept filesets show
  pub record At (D : List Deed) (tree : Tree) : Type 0 where
    pub put : StaysPut (acts_in D)
    pub shows : (f : Fid) (p : Part) → site f ≡ v → kept c D f p ≡ kept_view tree f p
    pub keeps : IsKept tree

  -- rules on what is sent
  pub record Fine (D : List Deed) (a : Doing) : Type 0 where
    pub tells : (h : HostId) (e n : ℕ) (p : Part) (w : GrantOf) (t : Token) → a ≡ Sent h e n (Grant w)
        → In t w.bring.tokens → shows t.kind p ≡ true → c.tells w p ≡ kept c D w.bring.fid p
    pub needs : (h : HostId) (e n : ℕ) (w : GrantOf) → a ≡ Sent h e n (Grant w)
        → (f : FetchOf) × (m : ℕ) × TookNow (acts_in D) h m (Fetch f)
        × (f.number ≡ w.bring.number) × (f.fid ≡ w.bring.fid)
        × ((t : Token) → In t w.bring.tokens → In (need_of t) f.needs)
    pub blind : (h : HostId) (e n : ℕ) (p : Part) (w : DoneOf) (t : Token) → a ≡ Sent h e n (Done w)
        → In t w.bring.tokens → shows t.kind p ≡ true → SentTo (acts_in D) h e n (Done w)
    pub there : (h : HostId) (e n : ℕ) (w : Bring) (t : Token) → BringsTokens a h e n w → In t w.tokens
        → Granted v (acts_in D) t ⊎ IsThere (kept c D t.fid Traits)

  pub unsent : (D : List Deed) (a : Doing) → ((h : HostId) (e n : ℕ) (b : Body) → a ≡ Sent h e n b → ⊥) → Fine D a
  unsent D a never = record {
    tells = λ h e n p w t is. absurd (never h e n (Grant w) is);
    needs = λ h e n w is. absurd (never h e n (Grant w) is);
    blind = λ h e n p w t is. absurd (never h e n (Done w) is);
    there = λ h e n w t b. elim b [
      | inl g ↦ absurd (never h e n (Grant g.0) g.1)
      | inr d ↦ absurd (never h e n (Done d.0) d.1)
    ];
  }

  module _ (root : (fs : FilesetId) → c.root fs ≡ root_of fs) where
    pub all_alike : (D : List Deed) (tree : Tree) → At D tree → AreAlike c v D
    all_alike D tree at f g a b at_v one e d =
        (filesets_are_alike tree at.keeps.formed).alike f g a b one (sym (at.shows f Traits at_v) ∙ e)
        (sym (at.shows g Traits (ap (λ (fs : FilesetId). home fs) (sym one) ∙ at_v)) ∙ d)

    pub all_roots : (D : List Deed) (tree : Tree) → At D tree → HaveRoots c v D
    all_roots D tree at fs a at_v e =
        (filesets_are_alike tree at.keeps.formed).roots fs a
        (sym (at.shows (root_of fs) Traits at_v)
        ∙ (ap (λ (f : Fid). kept c D f Traits) (sym (root fs)) ∙ e))

    -- a doing that does nothing to parts
    pub quiet : (D : List Deed) (tree : Tree) (a : Doing) → At D tree → Fine D a
        → ((h : HostId) (e n : ℕ) (b : Body) → a ≡ Took h e n b → ⊥)
        → ServerShows c v D (record { act = a; does = does_nothing })
    quiet D tree a at fine never = record {
      tells = fine.tells;
      needs = fine.needs;
      blind = fine.blind;
      there = fine.there;
      stores = λ f p x e. absurd (let q : Nothing ≡ Stores x = e in cc);
      stores_all = λ h g p x applies writable fits has. absurd (never h _ _ (GiveBack g) applies.0.2.0);
      sets = λ f p x e. absurd (let q : Nothing ≡ Sets x = e in cc);
      sets_whole = λ f x q t e. absurd (let r : Nothing ≡ Sets x = e in cc);
      removes = λ f t e. absurd (let q : Nothing ≡ Sets None = e in cc);
      keeps_kind = λ f old new e. absurd (let q : Nothing ≡ Sets (Some new) = e in cc);
      alike = all_alike D tree at;
      roots = all_roots D tree at;
      loses = λ f p h e. absurd (let q : Nothing ≡ Loses h = e in cc);
      loses_all = λ f p h e n is. absurd (never h e n Down is);
    }

-- tokens that were brought before aren't new
issued : (S : List Doing) (h : HostId) (e n : ℕ) (d : DoneOf) (t : Token) → In t d.bring.tokens
    → SentTo S h e n (Done d) → Issued S t (record { moves = n; stamp = d.bring.stamp })
issued [] h e n d t i q = elim q [ ]
issued (a ∷ S) h e n d t i (inl q) = inl (h, e, d.bring, inr (d, q, refl), i, refl)
issued (a ∷ S) h e n d t i (inr q) = inr (issued S h e n d t i q)

not_new : (v : ServerId) (S : List Doing) (h : HostId) (n : ℕ) (d : DoneOf) (t : Token) → MayBring v S h n d.bring
    → In t d.bring.tokens → SentTo S h (epoch S) n (Done d) → ⊥
not_new v S h n d t m i sent =
    let lt = m.new t t (record { moves = n; stamp = d.bring.stamp }) i (issued S h (epoch S) n d t i sent) (m.now t i) in
    omega (arith, lt)

-- a Grant brings what a Fetch that was taken asks for
asked_for : (v : ServerId) (tree : Tree) (S : List Doing) → AllTaken S → (h : HostId) (n : ℕ) (g : GrantOf)
    → GrantsSo v tree S h n g
    → (f : FetchOf) × (k : ℕ) × TookNow S h k (Fetch f) × (f.number ≡ g.bring.number) × (f.fid ≡ g.bring.fid)
    × ((t : Token) → In t g.bring.tokens → In (need_of t) f.needs)
asked_for v tree S taken h n g k = (
  k.fetch,
  k.w.moves,
  subst (λ (y : HostId × Request). TookNow S y.0 k.w.moves (body_of y.1)) (λ i. (k.host i, k.request i))
      (taken k.w k.waits),
  sym k.number,
  sym k.fid,
  λ t i. elim k.brings [
    | inl b ↦ one_needed k.fetch.needs g.bring.tokens b.1 t i
    | inr b ↦ elim (subst (In t) b.1.tokens i) [ ]
  ],
)

-- what is sent: a Grant tells what is kept, and brings what was asked for; a Done shows nothing new
module _ (c : Contents) (v : ServerId) (tree : Tree) (s : Step) (tells : (g : GrantOf) (p : Part) → c.tells g p ≡ part_told g p)
  where
    -- an object that is there
    is_there : (o : Option Nature) → (o ≡ None → ⊥) → IsThere o
    is_there None never = absurd (never refl)
    is_there (Some n) never = (n, refl)

    pub fine_sent : (D : List Deed) (a : Doing) → At c v D tree → AllTaken (acts_in D) → MaySend v tree s (acts_in D) a
        → ServerTokens v (acts_in D) a → Fine c v D a
    fine_sent D a at taken may tokens = record {
      tells = λ h e n p w t is i cov. (let g = may.grant_for h e n w is in
          tells w p ∙ (g.tells t p i cov
          ∙ sym (at.shows w.bring.fid p
          (made_at v (acts_in D) w.bring.fid.fileset n at.put (tokens.grants h e n w is).0.home))));
      needs = λ h e n w is. asked_for v tree (acts_in D) taken h n w (may.grant_for h e n w is);
      blind = λ h e n p w t is i cov. one_sent v tree s (acts_in D) a may tokens h e n p w t is i cov;
      there = there';
    }
      where
        at_home : (f : Fid) → site f ≡ v → (kept_view tree f Traits ≡ None → ⊥) → IsThere (kept c D f Traits)
        at_home f home never = is_there (kept c D f Traits) (λ e. never (sym (at.shows f Traits home) ∙ e))

        brought : (h : HostId) (e n : ℕ) (w : Bring) (t : Token) → MayBring v (acts_in D) h n w → In t w.tokens
            → (kept_view tree t.fid Traits ≡ None → ⊥) → IsThere (kept c D t.fid Traits)
        brought h e n w t m i never =
            at_home t.fid (ap site (m.file t i) ∙ made_at v (acts_in D) w.fid.fileset n at.put m.home) never

        of_row : (w : Wanted) (x : ChangeOf) (t : Token) → IsWellFormed tree → w.needs ≡ row_needs tree w.host x
            → In (need_of t) w.needs → kept_view tree t.fid Traits ≡ None → ⊥
        of_row w x t formed row i gone = go x.enter (user_of tree.roster w.host) (subst (In (need_of t)) row i)
          where
            of_list : (ns : List Need) → list_all (λ need. is_some (cell_at tree need.fid Traits).kept) ns ≡ true
                → In (need_of t) ns → ⊥
            of_list [] all i = elim i [ ]
            of_list (n ∷ ns) all (inl e) =
                false≢true (sym (ap is_some (ap (λ (y : Need). kept_view tree y.fid Traits) (sym e) ∙ gone))
                ∙ (and_parts (is_some (cell_at tree n.fid Traits).kept)
                (list_all (λ (need : Need). is_some (cell_at tree need.fid Traits).kept) ns) all).0)
            of_list (n ∷ ns) all (inr i) =
                of_list ns (and_parts (is_some (cell_at tree n.fid Traits).kept)
                (list_all (λ (need : Need). is_some (cell_at tree need.fid Traits).kept) ns) all).1 i

            go : (b : Bool) (o : Option User)
                → In (need_of t) (if b then [] else option_map_or (λ user. want tree user x.call) o []) → ⊥
            go true o i = elim i [ ]
            go false None i = elim i [ ]
            go false (Some user) i = of_list (want tree user x.call) (wants_are_there tree user x.call formed) i

        settled : (h : HostId) (e n : ℕ) (d : DoneOf) (t : Token) → a ≡ Sent h e n (Done d) → In t d.bring.tokens
            → MayBring v (acts_in D) h n d.bring → DoneFor v tree (acts_in D) h n d
            → Granted v (acts_in D) t ⊎ IsThere (kept c D t.fid Traits)
        settled h e n d t is i m (OfWritten written none last) = elim (subst (In t) none i) [ ]
        settled h e n d t is i m (TakenBack was last outcome none) = elim (subst (In t) none i) [ ]
        settled h e n d t is i m (Repeated sent last) = inl (repeated sent)
          where
            repeated : SentTo (acts_in D) h (epoch (acts_in D)) n (Done d) → Granted v (acts_in D) t
            repeated sent = absurd (not_new v (acts_in D) h n d t m i sent)
        settled h e n d t is i m (Answered k) = by k.so
          where
            by : AnsweredSo v tree (acts_in D) k.w k.change d → Granted v (acts_in D) t ⊎ IsThere (kept c D t.fid Traits)
            by (TakesToken uses accepted row can outcome needs) =
                let asked = one_needed k.w.needs d.bring.tokens needs t i in
                inr (brought h e n d.bring t m i (of_row k.w k.change t at.keeps.formed row.0 asked))
            by (NamesOther uses accepted other ready outcome none) = elim (subst (In t) none i) [ ]
            by (IsEntered fileset place enters named known outcome none) = elim (subst (In t) none i) [ ]

        there' : (h : HostId) (e n : ℕ) (w : Bring) (t : Token) → BringsTokens a h e n w → In t w.tokens
            → Granted v (acts_in D) t ⊎ IsThere (kept c D t.fid Traits)
        there' h e n w t (inl (g, is, same)) i =
            let k = may.grant_for h e n g is in
            let j : In t g.bring.tokens = subst (λ (y : Bring). In t y.tokens) (sym same) i in
            let m = (tokens.grants h e n g is).0 in
            elim k.brings [
              | inl b ↦ inr (brought h e n g.bring t m j
                  (λ gone. b.0 (ap (λ (f : Fid). kept_view tree f Traits) (sym (m.file t j)) ∙ gone)))
              | inr b ↦ elim (subst (In t) b.1.tokens j) [ ]
            ]
        there' h e n w t (inr (d, is, same)) i =
            let j : In t d.bring.tokens = subst (λ (y : Bring). In t y.tokens) (sym same) i in
            elim (tokens.dones h e n d is) [
              | inl none ↦ elim (subst (In t) none j) [ ]
              | inr k ↦ elim k [
                | inl new ↦ settled h e n d t is j new.0 (may.done_for h e n d is).2
                | inr old ↦ inl (old.1 t j)
              ]
            ]
