-- All that is held leaves, file by file.
use Rattle.base_types.specs.Ids.{same_fid}
use Rattle.base_types.specs.declared.ids.Fid.{Fid}
use Rattle.base_types.specs.declared.ids.FilesetId.{FilesetId}
use Rattle.base_types.specs.declared.limits.TheConstants.{FILE_BYTES_MAX}
use Rattle.host_cache.specs.Files.{file_key}
use Rattle.host_cache.specs.Holding.{is_status, tokens_of}
use Rattle.host_cache.specs.Seen.{of_key}
use Rattle.host_cache.specs.declared.held.Held.{Held}
use Rattle.host_dirty.specs.Dirtiness.{is_dirty as is_dirty_in}
use Rattle.host_gives.specs.Giving.{names, outstanding}
use Rattle.host_leaves.proofs.DirtyTokens.{at_file as file_at}
use Rattle.host_leaves.specs.Dirtying.{covers_left, is_named, staying, tokens_at, updates_byte}
use Rattle.host_leaves.specs.Giving.{HasToGive, Leaves, ids_of, IsDirtyUnder}
use Rattle.host_leaves.specs.Owning.{dirty_length}
use Rattle.host_leaves.specs.Revoking.{of_file}
use Rattle.host_manager.proofs.LeftBy.{stays_of, IsLeftBy}
use Rattle.host_manager.proofs.LeftFile.{and_true, last_or}
use Rattle.host_manager.proofs.LeftSo.{OnceSo, returns, start_by}
use Rattle.host_manager.proofs.OneFile.{at_file}
use Rattle.host_manager.proofs.PartSo.{HasLeft, IsPart, PartSo, gone_or, held_from, kept, none_left}
use Rattle.host_manager.specs.Closing.{LeavesEach, LeavesFile}
use Rattle.host_manager.specs.Closing.LeavesEach.{NoneLeft, OneLeaves}
use Rattle.host_manager.specs.Closing.LeavesFile.{HasLeft as IsGone, NowLeaves}
use Rattle.host_tables.proofs.Lists.{any_in, false_any, fid_same, filter_in, id_same, in_any, in_filter, in_left}
use Rattle.host_tables.proofs.Lists.{map_in, none_in, not_true, same_fid_is, same_id_is, true_not}
use Rattle.host_tables.specs.Drafts.{no_draft}
use Rattle.host_tables.specs.LeavingSteps.{Left, with_left}
use Rattle.host_tables.specs.Tables.{content, held_of}
use Rattle.host_tables.specs.declared.draft.Draft.{Draft}
use Rattle.host_tables.specs.declared.tables.Tables.{Tables}
use Rattle.message_types.specs.Soundness.{AreFileBytes, PiecesRise, no_fid}
use Rattle.message_types.specs.declared.giving.Give.{Give}
use Rattle.message_types.specs.declared.message.Message.{Message}
use Rattle.message_types.specs.declared.tokens.Named.{Named}
use Rattle.run_rules.specs.Past.{EachOnce, In}
use Rattle.run_rules.specs.Views.{byte_of}
use Rattle.run_rules.specs.declared.applied.Why.TheVariants.{Ended}
use Rattle.std.proofs.Common.{Bool, List, None, Some, [], ap, false, filter, if◌then◌else◌, inl, inr, map, not, refl}
use Rattle.std.proofs.Common.{subst, sym, true, ℕ, ◌&&◌, ◌++◌, ◌∙◌, ◌∷◌, ◌≡◌, ◌≤◌, ◌⊎◌}
use Rattle.std.proofs.lemmas.Bool.{and_from}
use Rattle.std.specs.List.{list_any}
use Rattle.token_types.specs.Conflicts.{same_id}
use Rattle.token_types.specs.declared.token.Token.{Token}
use Rattle.token_types.specs.declared.token.TokenId.{TokenId}
use Rattle.tree_laws.specs.Parts.Part.{ByteAt}
use Rattle.host_manager.proofs.NextFile as next_file

-- why a give-back names a token of a file that leaves whole
abbrev pub HasDirt : Tables → Token → Type 0
HasDirt m t = (list_any (names t.id) m.gives.gives ≡ true) ⊎ IsDirtyUnder m t.fid t

-- the give-back of a file of which all tokens leave
pub record IsWhole (m : Tables) (g : Give) : Type 0 where
  pub named : List Token
  pub from : (t : Token) → In t named → In t (held_of m) × (t.fid ≡ g.fid)
  pub ids : g.ids ≡ ids_of named
  pub some : named ≡ [] → ⊥
  pub rise : PiecesRise g.pieces
  pub fit : AreFileBytes g.pieces
  pub bytes : (at : ℕ) → byte_of g.pieces at
      ≡ (if is_dirty_in m.dirty g.fid at && list_any (updates_byte at) named
      then Some (content m.cache g.fid (ByteAt at)) else None)
  pub length : g.length ≡ dirty_length m g.fid
  pub ends : g.ends ≡ None

-- what is said of them, and which filesets have to be seen to
pub record SaidSo (m : Tables) (fids : List Fid) (gone : List Token) (made : List Give) (sent : List Message)
    (dues : List FilesetId) : Type 0 where
  pub said : (y : Message) → In y sent → (w : Named) × (y ≡ returns m w) × In w.fid fids
      × ((i : TokenId) → In i w.ids → (t : Token) × In t gone × (t.id ≡ i) × (t.fid ≡ w.fid)
      × ((g : Give) → In g made → In i g.ids → ⊥))
  pub back : (t : Token) → In t gone → ((g : Give) × In g made × In t.id g.ids)
      ⊎ ((w : Named) × In (returns m w) sent × In t.id w.ids)
  pub due : (g : Give) → In g made → outstanding m.gives g.fid.fileset ≡ None → In g.fid.fileset dues

-- a draft in which such has been done
abbrev pub start : List Give → List Token → List Message → List FilesetId → Draft
start = start_by Ended

-- the tokens of these files have left
pub record HasGone (m : Tables) (fids : List Fid) (x : Tables) (d : Draft) : Type 0 where
  pub l : Left
  pub gone : List Token
  pub made : List Give
  pub sent : List Message
  pub due : List FilesetId
  pub tables : x ≡ with_left m l
  pub draft : d ≡ start made gone sent due
  pub left : PartSo m (held_of m) l fids gone made
  pub said : SaidSo m fids gone made sent due
  pub once : OnceSo m gone made sent due

-- # Of a file that leaves whole no token stays
none_stays : (m : Tables) (fid : Fid) (at : ℕ)
    → list_any (updates_byte at) (staying m fid (of_file fid (held_of m))) ≡ false
none_stays m fid at =
    let leaving = of_file fid (held_of m) in
    false_any (updates_byte at) (staying m fid leaving)
    (λ u i e.
    let q = in_filter (λ token. not (is_named leaving token)) (tokens_at m fid) u i in
    let f = file_at m fid u q.0 in
    let here = filter_in (λ (token : Token). same_fid token.fid fid) (held_of m) u f.0 (fid_same u.fid fid f.1) in
    not_true (is_named leaving u) q.1
    (any_in (λ (t : Token). same_id t.id u.id) leaving u here (id_same u.id u.id refl)))

covers_whole : (m : Tables) (fid : Fid) (named : List Token) (at : ℕ)
    → covers_left m fid named (of_file fid (held_of m)) at ≡ list_any (updates_byte at) named
covers_whole m fid named at =
    ap (λ (b : Bool). list_any (updates_byte at) named && not b) (none_stays m fid at)
    ∙ and_true (list_any (updates_byte at) named)

pub whole_of : (m : Tables) (g : Give) → IsPart m (held_of m) g → IsWhole m g
whole_of m g part = record {
  named = part.named;
  from = λ t i.
      let f = in_filter (λ (token : Token). same_fid token.fid g.fid) (held_of m) t (part.from t i) in
      (f.0, same_fid_is t.fid g.fid f.1);
  ids = part.ids;
  some = part.some;
  rise = part.pieces.rise;
  fit = part.pieces.fit;
  bytes = λ at.
      part.pieces.bytes at
      ∙ ap (λ (b : Bool). if is_dirty_in m.dirty g.fid at && b then Some (content m.cache g.fid (ByteAt at)) else None)
      (covers_whole m g.fid part.named at);
  length = part.length;
  ends = part.ends;
}

to_give : (m : Tables) (t : Token) → In t (held_of m) → HasDirt m t → HasToGive m t.fid (of_file t.fid (held_of m)) t
to_give m t i (inl e) = inl e
to_give m t i (inr (inl (at, dirty, updates))) =
    let leaving = of_file t.fid (held_of m) in
    let here = filter_in (λ (token : Token). same_fid token.fid t.fid) (held_of m) t i (fid_same t.fid t.fid refl) in
    let covers = covers_whole m t.fid leaving at ∙ any_in (updates_byte at) leaving t here updates in
    inr (inl (
      at,
      and_from (is_dirty_in m.dirty t.fid at) (covers_left m t.fid leaving leaving at) dirty covers,
      updates,
    ))
to_give m t i (inr (inr d)) = inr (inr d)

pub whole_has : (m : Tables) (l : Left) (fids : List Fid) (gone : List Token) (made : List Give)
    → PartSo m (held_of m) l fids gone made → (t : Token) → In t gone → HasDirt m t
    → (g : Give) × In g made × (g.fid ≡ t.fid) × In t.id g.ids
whole_has m l fids gone made so t i dirt = so.has t i (to_give m t (so.from t i).0 dirt)

-- the tokens of a file among some
abbrev its_of : Fid → List Held → List Token
its_of fid held = tokens_of (of_key (file_key fid) held)

-- a file that hasn't left yet has the tokens that it had
its_tokens : (stays : Held → Bool) (fid : Fid) (hs : List Held)
    → ((h : Held) → In h hs → h.token.fid ≡ fid → stays h ≡ true)
    → its_of fid (filter stays hs) ≡ of_file fid (tokens_of hs)
its_tokens stays fid [] all = refl
its_tokens stays fid (h ∷ hs) all =
    by_file (its_tokens stays fid hs (λ k i e. all k (inr i) e)) (same_fid h.token.fid fid) refl
  where
    by_file : its_of fid (filter stays hs) ≡ of_file fid (tokens_of hs) → (b : Bool) → same_fid h.token.fid fid ≡ b
        → its_of fid (filter stays (h ∷ hs)) ≡ of_file fid (h.token ∷ tokens_of hs)
    by_file rest true e =
        let s = all h (inl refl) (same_fid_is h.token.fid fid e) in
        ap (λ (b : Bool). its_of fid (if b then h ∷ filter stays hs else filter stays hs)) s
        ∙ ap (λ (b : Bool). tokens_of (if b then h ∷ of_key (file_key fid) (filter stays hs)
        else of_key (file_key fid) (filter stays hs))) e
        ∙ ap (λ (ts : List Token). h.token ∷ ts) rest
        ∙ ap (λ (b : Bool). if b then h.token ∷ of_file fid (tokens_of hs) else of_file fid (tokens_of hs)) (sym e)
    by_file rest false n =
        by_stays (stays h)
        ∙ rest
        ∙ ap (λ (b : Bool). if b then h.token ∷ of_file fid (tokens_of hs) else of_file fid (tokens_of hs)) (sym n)
      where
        by_stays : (b : Bool) → its_of fid (if b then h ∷ filter stays hs else filter stays hs)
            ≡ its_of fid (filter stays hs)
        by_stays true = ap (λ (b : Bool). tokens_of (if b then h ∷ of_key (file_key fid) (filter stays hs)
            else of_key (file_key fid) (filter stays hs))) n
        by_stays false = refl

pub some_there : {A : Type 0} (xs : List A) → (xs ≡ [] → ⊥) → (x : A) × In x xs
some_there [] some = absurd (some refl)
some_there (x ∷ xs) some = (x, inl refl)

-- # All of them
module _ (m : Tables) (once : (t u : Token) → In t (held_of m) → In u (held_of m) → t.id ≡ u.id → t ≡ u)
    (tells : (h : Held) → In h m.cache.held → is_status h.token.kind ≡ true → h.tells ≡ true)
    (zero : (fid : Fid) (at : ℕ) → FILE_BYTES_MAX ≤ at → content m.cache fid (ByteAt at) ≡ 0)
    (once_held : EachOnce (held_of m)) where
  abbrev AllLeft : List Fid → Tables → Draft → Type 0
  AllLeft fids x d = HasLeft Ended m (held_of m) [] no_fid [] m.lost fids x d

  module _ (fids : List Fid) (x : Tables) (d : Draft) (h : AllLeft fids x d) (fid : Fid) where
    abbrev z : Tables
    z = with_left m h.l

    kept_so : IsLeftBy m.cache h.l.cache h.gone
    kept_so = kept m once tells zero (held_of m) (λ t i. i) h.l fids h.gone h.made h.left

    -- no token of the file is left
    same_file : tokens_at z fid ≡ [] → AllLeft (fids ++ fid ∷ []) x d
    same_file none = record {
      l = h.l;
      gone = h.gone;
      made = h.made;
      sent = h.sent;
      due = h.due;
      tables = h.tables;
      draft = h.draft;
      left = record {
        uses = h.left.uses;
        ending = h.left.ending;
        shown = h.left.shown;
        from = λ t i. let r = h.left.from t i in (r.0, in_left fids (fid ∷ []) t.fid r.1);
        all = λ t i j. elim (last_or fids fid t.fid j) [
          | inl k ↦ h.left.all t i k
          | inr e ↦ elim (gone_or m once tells zero (held_of m) (λ u n. n) h.l fids h.gone h.made h.left t i) [
            | inl k ↦ k
            | inr k ↦ absurd (none_in (tokens_at z fid) none t (at_file z fid t k e))
          ]
        ];
        part = h.left.part;
        its_file = λ g i. in_left fids (fid ∷ []) g.fid (h.left.its_file g i);
        one = h.left.one;
        has = h.left.has;
        above = h.left.above;
        next = h.left.next;
        apart = h.left.apart;
        dirty = h.left.dirty;
        length_new = h.left.length_new;
        length_old = h.left.length_old;
        gives_from = h.left.gives_from;
        gives_old = h.left.gives_old;
        gives_new = h.left.gives_new;
        last_up = h.left.last_up;
        last_new = h.left.last_new;
        last_is = h.left.last_is;
        leaving_old = h.left.leaving_old;
        leaving_new = h.left.leaving_new;
        leaving_from = h.left.leaving_from;
      };
      said = record {
        said = λ y i. elim (h.said.said y i) [
          | inl n ↦ inl n
          | inr r ↦ inr (r.0, r.1, in_left fids (fid ∷ []) r.0.fid r.2, r.3)
        ];
        keeps = h.said.keeps;
        back = h.said.back;
        rest = λ i n at. elim n [ ];
        due = h.said.due;
      };
      once = h.once;
    }

    fresh_by : (tokens_at z fid ≡ [] → ⊥) → In fid fids → ⊥
    fresh_by some j =
        let t = some_there (tokens_at z fid) some in
        let f = file_at z fid t.0 t.1 in
        let r = held_from m once tells zero (held_of m) (λ u n. n) h.l fids h.gone h.made h.left t.0 f.0 in
        r.1 (h.left.all t.0 r.0 (subst (λ (o : Fid). In o fids) (sym f.1) j))

    file_is : (In fid fids → ⊥) → tokens_at z fid ≡ of_file fid (held_of m)
    file_is fresh =
        ap (λ (hs : List Held). tokens_of (of_key (file_key fid) hs)) kept_so.held
        ∙ its_tokens (stays_of h.gone) fid m.cache.held
        (λ k i at. true_not (is_named h.gone k.token) (λ e.
        let r = in_any (λ (u : Token). same_id u.id k.token.id) h.gone e in
        let was = h.left.from r.0 r.1 in
        let same = once r.0 k.token was.0 (map_in (λ (o : Held). o.token) m.cache.held k i)
        (same_id_is r.0.id k.token.id r.2) in
        fresh (subst (λ (o : Fid). In o fids) (ap (λ (u : Token). u.fid) same ∙ at) was.1)))

    now_leaves : (y : Tables) (e : Draft) → (tokens_at z fid ≡ [] → ⊥)
        → Leaves z (start_by Ended h.made h.gone h.sent h.due) fid (tokens_at z fid) Ended [] y e
        → AllLeft (fids ++ fid ∷ []) y e
    now_leaves y e some its =
        let fresh = fresh_by some in
        (next_file.file_leaves Ended m once tells zero (held_of m) (λ t i. i) [] no_fid [] [] h.l m.lost fids h.gone
        h.made h.left h.sent h.due h.said h.once once_held (λ o i. elim i [ ]) fid fresh (λ i n. elim n [ ])
        (λ at i n. n) y e (subst (λ (ts : List Token). Leaves z (start_by Ended h.made h.gone h.sent h.due) fid ts Ended
        [] y e) (file_is fresh) its)).0

    one_leaves : (y : Tables) (e : Draft) → LeavesFile x d fid y e → AllLeft (fids ++ fid ∷ []) y e
    one_leaves y e file =
        by_file (subst (λ (q : Tables × Draft). LeavesFile q.0 q.1 fid y e) (λ i. (h.tables i, h.draft i)) file)
      where
        by_file : LeavesFile z (start_by Ended h.made h.gone h.sent h.due) fid y e → AllLeft (fids ++ fid ∷ []) y e
        by_file (IsGone none tables draft) =
            subst (λ (q : Tables × Draft). AllLeft (fids ++ fid ∷ []) q.0 q.1)
            (λ i. ((h.tables ∙ sym tables) i, (h.draft ∙ sym draft) i)) (same_file none)
        by_file (NowLeaves some its) = now_leaves y e some its

  fids_more : (us : List Token) (t : Token)
      → map (λ (u : Token). u.fid) us ++ t.fid ∷ [] ≡ map (λ (u : Token). u.fid) (us ++ t ∷ [])
  fids_more [] t = refl
  fids_more (u ∷ us) t = ap (λ (fs : List Fid). u.fid ∷ fs) (fids_more us t)

  by_steps : (us : List Token) (o : Tables) (b : Draft) (y : Tables) (a : Draft) → LeavesEach us o b y a → m ≡ o
      → b ≡ no_draft → AllLeft (map (λ (t : Token). t.fid) us) y a
  by_steps _ _ _ _ _ (NoneLeft o b) is none =
      subst (λ (q : Tables × Draft). AllLeft [] q.0 q.1) (λ i. (is i, sym none i))
      (none_left Ended m (held_of m) [] no_fid [] tt)
  by_steps _ _ _ _ _ (OneLeaves t us o w y b c a before file) is none =
      subst (λ (fs : List Fid). AllLeft fs y a) (fids_more us t)
      (one_leaves (map (λ (u : Token). u.fid) us) w c (by_steps us o b w c before is none) t.fid y a file)

  pub all_files : (ts : List Token) (d : Draft) (x : Tables) (e : Draft) → d ≡ no_draft → LeavesEach ts m d x e
      → HasGone m (map (λ (t : Token). t.fid) ts) x e
  all_files ts d x e empty leaves =
      let h = by_steps ts m d x e leaves refl empty in record {
        l = h.l;
        gone = h.gone;
        made = h.made;
        sent = h.sent;
        due = h.due;
        tables = h.tables;
        draft = h.draft;
        left = h.left;
        said = record {
          said = λ y i. elim (h.said.said y i) [
            | inl n ↦ elim n [ ]
            | inr r ↦ (r.0, r.1, r.2, λ k n. elim (r.3 k n) [ inl q ↦ q | inr b ↦ elim b.0 [ ] ])
          ];
          back = h.said.back;
          due = h.said.due;
        };
        once = h.once;
      }
