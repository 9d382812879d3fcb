-- The loop over the frames of a module, and what the stripper gives at each of its ends.
use Rattle.std.proofs.Common.{◌≡◌, ◌≢◌, inl, inr, ℕ, ◌+◌, ◌-◌, ◌^◌, ◌<◌, ◌≤◌, List, [], ◌∷◌, ◌++◌, append-nil, append_assoc, length, length-append, Bool, Result, Ok, Err, IfErr, refl, sym, ap, ◌∙◌, subst, arith}
use Rattle.std.proofs.lemmas.List.{append_cancel_left}
use Rattle.wasm_leb.specs.declared.fault.Fault.{Fault}
use Rattle.wasm_leb.specs.declared.fault.Fault.TheVariants as fault
use Rattle.wasm_leb.specs.Leb.{leb}
use Rattle.wasm_leb.proofs.Spellings.{unsigned_32_is_shortest}
use Rattle.wasm_shapes.specs.Tree.{Tree, normal}
use Rattle.wasm_shapes.specs.Shape.{Shape}
use Rattle.wasm_shapes.specs.Spells.{Is, Spelled, Spells}
use Rattle.wasm_shapes.specs.Place.{Begins, BeginsNone}
use Rattle.wasm_shapes.specs.Rows.{rows_then}
use Rattle.wasm_shapes.specs.Types.{rows_tree}
use Rattle.wasm_shapes.specs.Module.{core_header, custom_frame, frame}
use Rattle.wasm_shapes.proofs.Rows.{rows_then-append}
use Rattle.wasm_read.specs.declared.types.Payload.{Payload}
use Rattle.wasm_read.specs.declared.types.Payload.TheVariants as payload
use Rattle.wasm_read.specs.Frames as read
use Rattle.wasm_read.specs.Frames.{HeaderRead, NoCoreHeader, frame_tree, numbered_frame, section_number, sections_place}
use Rattle.wasm_read.specs.Payloads.{NoFrame}
use Rattle.wasm_write.specs.declared.fault.WriteFault.{WriteFault}
use Rattle.wasm_write.specs.declared.fault.WriteFault.TheVariants as write
use Rattle.wasm_write.specs.Faults.{IfTooLarge}
use Rattle.wasm_write.specs.Sections.{SectionRow, Sections, section_bytes, sections_bytes}
use Rattle.wasm_write.proofs.Holding.{snoc_normal}
use Rattle.reencode_hooks.specs.declared.error.Error.{Error}
use Rattle.reencode_hooks.specs.declared.error.Error.TheVariants.{NoMemory}
use Rattle.reencode_hooks.specs.Errors.{error_of_fault}
use Rattle.reencode_core.specs.Rows.{RowsBefore}
use Rattle.reencode_core.proofs.sections_walked.CoreLoop.{no_header}
use Rattle.reencode_core.proofs.rows_walked.RowsToEnd.{first_of_many, none_of_many}
use Rattle.reencode_core.proofs.rows_walked.RowLoop.{before_more}
use Rattle.examples.specs.Stripper.{AddsKept, Framed, IsStripped, IsUnframed, Stay, payload_row}

-- ---- one section

-- what is added is the frame in normal spelling
pub payload_spelled : (p : Payload) → section_bytes (payload_row p) ≡ normal (frame_tree p)
payload_spelled (payload.Section id at body) = refl
payload_spelled (payload.Custom at section) = refl
payload_spelled (payload.Unknown at id contents) = refl

-- a body is as long as its length says, and so below 2^32; in normal spelling it is no longer
numbered_short : (id : ℕ) (body x : List ℕ) → Spelled (numbered_frame id body) x → length body < 2 ^ 32
numbered_short id body x p =
    let size = p.4.3.fits in
    let same : length p.4.1 ≡ length body = ap length p.4.4 in
    omega arith

custom_short : (name contents x : List ℕ) → Spelled (custom_frame name contents) x → length ((leb (length name) ++ name) ++ contents) < 2 ^ 32
custom_short name contents x p =
    let size : length p.4.1 < 2 ^ 32 = p.4.3.fits in
    let parts = p.4.4 in
    let named = parts.3 in
    let least : length (leb (length name)) ≤ length named.0 = (unsigned_32_is_shortest (length name) named.2.fits).1 named.0 named.2 in
    let whole : length p.4.1 ≡ length parts.0 + length parts.1 = ap length parts.2 ∙ length-append parts.0 parts.1 in
    let front : length parts.0 ≡ length named.0 + length name = ap length named.1 ∙ length-append named.0 name in
    let rest : length parts.1 ≡ length contents = ap length parts.4 in
    let all : length ((leb (length name) ++ name) ++ contents) ≡ length (leb (length name)) + length name + length contents =
    length-append (leb (length name) ++ name) contents ∙ ap (λ (n : ℕ). n + length contents) (length-append (leb (length name)) name) in
    omega arith

pub payload_short : (p : Payload) (x : List ℕ) → Spelled (frame_tree p) x → length (SectionRow.body (payload_row p)) < 2 ^ 32
payload_short (payload.Section id at body) x s = numbered_short (section_number id) body.now x s
payload_short (payload.Custom at section) x s = custom_short section.name.now section.contents.now x s
payload_short (payload.Unknown at id contents) x s = numbered_short id contents.now x s

-- a body that is no longer is never too large
pub wants_memory : (n ceiling : ℕ) → n < 2 ^ 32 → 2 ^ 32 - 1 ≤ ceiling → (r : Result (Unit {0}) WriteFault) → IfErr r (λ e. IfTooLarge e (λ size. (size ≡ n) × (ceiling < size))) →
    IfErr r (λ e. e ≡ write.NoMemory)
wants_memory n ceiling short room (Ok u) h = tt
wants_memory n ceiling short room (Err (write.TooLarge size)) h = absurd (omega (arith, h.0, h.1))
wants_memory n ceiling short room (Err write.NoMemory) h = refl

-- ---- lists

stay_more : {all : Bool} {ts us xs ys : List Tree} → Stay all ts us → Stay all xs ys → Stay all (ts ++ xs) (us ++ ys)
stay_more Stay.none more = more
stay_more (Stay.left l s) more = Stay.left l (stay_more s more)
stay_more (Stay.kept k s) more = Stay.kept k (stay_more s more)

bytes_more : (rows : List SectionRow) (row : SectionRow) → sections_bytes (rows ++ row ∷ []) ≡ sections_bytes rows ++ section_bytes row
bytes_more [] row = append-nil (section_bytes row)
bytes_more (r ∷ rows) row = ap (λ (z : List ℕ). section_bytes r ++ z) (bytes_more rows row) ∙ sym (append_assoc (section_bytes r) (sections_bytes rows) (section_bytes row))

-- ---- the loop

-- The frames so far were read, and those that stay were added.
pub record Stripping (all : Bool) (start reader : read.Sections) (new : Sections) : Type 0 where
  pub len : reader.len ≡ start.len
  pub ceiling : new.ceiling ≡ 2 ^ 32 - 1
  pub sections : List Tree
  pub front : RowsBefore frame start.rest sections reader.rest
  pub back : (rows : Tree) → Spells (Shape.many frame) start.rest rows → (others : Tree) × (rows ≡ rows_then sections others) × Spells (Shape.many frame) reader.rest others
  pub kept : List Tree
  pub stay : Stay all sections kept
  pub spelled : sections_bytes new.sections ≡ normal (rows_tree kept)

pub stripping_begun : (all : Bool) (start : read.Sections) (new : Sections) → new ≡ record { ceiling = 2 ^ 32 - 1; sections = [] } → Stripping all start start new
stripping_begun all start new e = record {
  len = refl;
  ceiling = ap Sections.ceiling e;
  sections = [];
  front = record { text = []; shaped = Is.nil; spelled = refl; stands = refl };
  back = λ rows r. (rows, refl, r);
  kept = [];
  stay = Stay.none;
  spelled = ap (λ (m : Sections). sections_bytes m.sections) e;
}

module _ {all : Bool} {start reader : read.Sections} {old : Sections} (d : Stripping all start reader old) where
  pub stripping_more : {reader' : read.Sections} {new : Sections} (p : Payload) → Begins frame reader.rest (frame_tree p) reader'.rest → reader'.len ≡ reader.len → AddsKept all p old new → Stripping all start reader' new
  stripping_more {reader' = reader'} {new = new} p there len added = go added
    where
      back : (rows : Tree) → Spells (Shape.many frame) start.rest rows → (others : Tree) × (rows ≡ rows_then (d.sections ++ frame_tree p ∷ []) others) × Spells (Shape.many frame) reader'.rest others
      back rows r =
          let b = d.back rows r in
          let f = first_of_many refl refl refl there b.0 b.2 in
          (f.0, b.1 ∙ ap (rows_then d.sections) f.1 ∙ sym (rows_then-append d.sections (frame_tree p) f.0), f.2)

      go : AddsKept all p old new → Stripping all start reader' new
      go (inl gone) = record {
        len = len ∙ d.len;
        ceiling = ap Sections.ceiling gone.1 ∙ d.ceiling;
        sections = d.sections ++ frame_tree p ∷ [];
        front = before_more d.front there;
        back = back;
        kept = d.kept ++ [];
        stay = stay_more d.stay (Stay.left gone.0 Stay.none);
        spelled = ap (λ (m : Sections). sections_bytes m.sections) gone.1 ∙ d.spelled ∙ ap (λ (z : List Tree). normal (rows_tree z)) (sym (append-nil d.kept));
      }
      go (inr put) = record {
        len = len ∙ d.len;
        ceiling = ap Sections.ceiling put.1 ∙ d.ceiling;
        sections = d.sections ++ frame_tree p ∷ [];
        front = before_more d.front there;
        back = back;
        kept = d.kept ++ frame_tree p ∷ [];
        stay = stay_more d.stay (Stay.kept put.0 Stay.none);
        spelled =
            ap (λ (m : Sections). sections_bytes m.sections) put.1 ∙ bytes_more old.sections (payload_row p)
            ∙ ap (λ (z : List ℕ). z ++ section_bytes (payload_row p)) d.spelled ∙ ap (λ (z : List ℕ). normal (rows_tree d.kept) ++ z) (payload_spelled p)
            ∙ sym (snoc_normal d.kept (frame_tree p));
      }

  -- ---- the ends

  module _ {bytes : List ℕ} (header : HeaderRead bytes start) where
    framed : Framed bytes d.sections reader.rest
    framed = record { start = start.rest; stands = header.stands; front = d.front }

    pub stripped : reader.rest ≡ [] → IsStripped all bytes (core_header ++ sections_bytes old.sections)
    stripped empty = record {
      sections = d.sections;
      reading = subst (λ (z : List ℕ). Framed bytes d.sections z) empty framed;
      kept = d.kept;
      stay = d.stay;
      spelled = ap (λ (z : List ℕ). core_header ++ z) d.spelled;
    }

    -- no frame begins
    pub unframed : {E : Type 0} (f : Fault) → NoFrame f reader.rest (sections_place reader) → IsUnframed {E = E} bytes (error_of_fault f)
    unframed f none =
        let place : sections_place reader ≡ length bytes - length reader.rest = ap (λ (n : ℕ). n - length reader.rest) (d.len ∙ header.len) in
        (f, refl, inr (record { sections = d.sections; rest = reader.rest; reading = framed; none = subst (λ (n : ℕ). NoFrame f reader.rest n) place none }))

    pub not_whole : (f : Fault) → NoFrame f reader.rest (sections_place reader) → (sections : List Tree) → Framed bytes sections [] → ⊥
    not_whole f none sections whole =
        let behind : start.rest ≡ whole.start = append_cancel_left core_header start.rest whole.start (sym header.stands ∙ whole.stands) in
        let all_text : whole.front.text ≡ start.rest = sym (append-nil whole.front.text) ∙ sym whole.front.stands ∙ sym behind in
        let b = d.back (rows_tree sections) (record { shaped = whole.front.shaped; spelled = subst (λ (z : List ℕ). Spelled (rows_tree sections) z) all_text whole.front.spelled }) in
        none_of_many (none_there f none) (some_there f none) b.0 b.2
      where
        none_there : (f : Fault) → NoFrame f reader.rest (sections_place reader) → BeginsNone frame reader.rest
        none_there (fault.Read x) h = h.1
        none_there fault.CodeSize h = h.0
        none_there (fault.Header k) h = absurd h
        none_there fault.NoMemory h = absurd h

        some_there : (f : Fault) → NoFrame f reader.rest (sections_place reader) → reader.rest ≢ []
        some_there (fault.Read x) h = h.2
        some_there fault.CodeSize h = λ e. let code = h.1.is_code in cc
        some_there (fault.Header k) h = absurd h
        some_there fault.NoMemory h = absurd h

-- no header of a module stands there
pub headless : {bytes : List ℕ} (f : Fault) → NoCoreHeader f bytes → (sections : List Tree) → Framed bytes sections [] → ⊥
headless f none sections whole = no_header f none whole.start whole.stands

-- of bytes that are no frames
pub none_whole : {A E : Type 0} (bytes : List ℕ) → ((sections : List Tree) → Framed bytes sections [] → ⊥) → (r : Result A (Error E)) →
    IfErr r (λ e. (sections : List Tree) → Framed bytes sections [] → e ≡ NoMemory)
none_whole bytes never (Ok a) = tt
none_whole bytes never (Err e) = λ sections whole. absurd (never sections whole)
