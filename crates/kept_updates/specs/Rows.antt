-- Worked updates. The digests are those that `sha256sum` prints.
use Rattle.std.specs.Prelude.{◌≡◌, ℕ, List, [], ◌∷◌, ◌++◌, Bool, true, false, take, drop, map, length, replicate, reverse}
use Rattle.component_package.specs.declared.answer.Answer.TheVariants.{Booted, ManifestIs, Piece, Linked, Committed, Missing, NotLinked, Ended}
use Rattle.component_package.specs.mote.Frames.{Frame, stream_of}
use Rattle.kept_definitions.specs.Machine.{Mote, mote_from, session_mote, answers_from, session_answers}
use Rattle.kept_laws.specs.Formatted.{formatted_mote}
use Rattle.kept_updates.specs.Update.{Delivered, IsUpdate, update_frames, update_answers}

-- ---- packages

-- a package with calls of another one's symbol, in 102 bytes, and one that exports it, in 40
abbrev pub sender_bytes : List ℕ
sender_bytes =
    70 ∷ 67 ∷ 80 ∷ 49 ∷ 1 ∷ 0 ∷ 1 ∷ 0 ∷ 18 ∷ 0 ∷ 8 ∷ 0 ∷ 2 ∷ 0 ∷ 2 ∷ 0 ∷
    4 ∷ 0 ∷ 0 ∷ 0 ∷ 0 ∷ 0 ∷ 0 ∷ 0 ∷ 0 ∷ 0 ∷ 0 ∷ 0 ∷ 0 ∷ 0 ∷ 0 ∷ 0 ∷
    128 ∷ 224 ∷ 144 ∷ 224 ∷ 14 ∷ 148 ∷ 0 ∷ 0 ∷ 0 ∷ 192 ∷ 8 ∷ 149 ∷ 1 ∷ 2 ∷ 3 ∷ 4 ∷
    5 ∷ 0 ∷ 10 ∷ 11 ∷ 12 ∷ 0 ∷ 97 ∷ 98 ∷ 99 ∷ 0 ∷ 16 ∷ 0 ∷ 0 ∷ 0 ∷ 0 ∷ 0 ∷
    17 ∷ 0 ∷ 2 ∷ 0 ∷ 0 ∷ 0 ∷ 0 ∷ 0 ∷ 0 ∷ 6 ∷ 1 ∷ 0 ∷ 5 ∷ 0 ∷ 2 ∷ 0 ∷
    0 ∷ 7 ∷ 1 ∷ 0 ∷ 5 ∷ 0 ∷ 4 ∷ 0 ∷ 0 ∷ 18 ∷ 18 ∷ 0 ∷ 0 ∷ 0 ∷ 8 ∷ 0 ∷
    0 ∷ 3 ∷ 0 ∷ 0 ∷ 0 ∷ 0 ∷ []

abbrev pub radio_bytes : List ℕ
radio_bytes =
    70 ∷ 67 ∷ 80 ∷ 49 ∷ 2 ∷ 0 ∷ 1 ∷ 0 ∷ 2 ∷ 0 ∷ 0 ∷ 0 ∷ 0 ∷ 0 ∷ 1 ∷ 0 ∷
    0 ∷ 0 ∷ 0 ∷ 0 ∷ 0 ∷ 0 ∷ 0 ∷ 0 ∷ 0 ∷ 0 ∷ 0 ∷ 0 ∷ 0 ∷ 0 ∷ 0 ∷ 0 ∷
    8 ∷ 149 ∷ 18 ∷ 0 ∷ 0 ∷ 0 ∷ 0 ∷ 0 ∷ []

-- a later version of the second, with 300 bytes of code
abbrev pub later_radio_bytes : List ℕ
later_radio_bytes =
    70 ∷ 67 ∷ 80 ∷ 49 ∷ 2 ∷ 0 ∷ 2 ∷ 0 ∷ 44 ∷ 1 ∷ 0 ∷ 0 ∷ 0 ∷ 0 ∷ 1 ∷ 0 ∷ 0 ∷ 0 ∷
    (replicate 14 0 ++ 8 ∷ 149 ∷ (replicate 298 0 ++ 18 ∷ 0 ∷ 0 ∷ 0 ∷ 0 ∷ 0 ∷ []))

abbrev pub sender : Delivered
sender = record { component = 1; version = 1; bytes = sender_bytes }

abbrev pub radio : Delivered
radio = record { component = 2; version = 1; bytes = radio_bytes }

-- release 1, and release 2 with the second component first, in its later version
abbrev pub both : List Delivered
both = sender ∷ radio ∷ []

abbrev pub replaced : List Delivered
replaced = record { component = 2; version = 2; bytes = later_radio_bytes } ∷ sender ∷ []

-- another package under a number that release 1 has: an RCALL in place of the RET
abbrev pub disagreeing : List Delivered
disagreeing = sender ∷ record { component = 2; version = 1; bytes = take 32 radio_bytes ++ 12 ∷ 148 ∷ drop 34 radio_bytes } ∷ []

-- the update to release 1 on the line
abbrev pub first_update_bytes : List ℕ
first_update_bytes =
    1 ∷ 81 ∷ 0 ∷ 1 ∷ 0 ∷ 0 ∷ 0 ∷ 2 ∷ 1 ∷ 0 ∷ 1 ∷ 0 ∷ 102 ∷ 0 ∷ 29 ∷ 114 ∷
    252 ∷ 240 ∷ 234 ∷ 19 ∷ 100 ∷ 196 ∷ 185 ∷ 212 ∷ 247 ∷ 175 ∷ 2 ∷ 14 ∷ 211 ∷ 119 ∷ 51 ∷ 148 ∷
    189 ∷ 61 ∷ 215 ∷ 145 ∷ 176 ∷ 0 ∷ 84 ∷ 210 ∷ 203 ∷ 243 ∷ 78 ∷ 148 ∷ 82 ∷ 183 ∷ 2 ∷ 0 ∷
    1 ∷ 0 ∷ 40 ∷ 0 ∷ 68 ∷ 102 ∷ 233 ∷ 232 ∷ 106 ∷ 213 ∷ 130 ∷ 74 ∷ 61 ∷ 89 ∷ 202 ∷ 223 ∷
    170 ∷ 16 ∷ 228 ∷ 212 ∷ 127 ∷ 39 ∷ 223 ∷ 161 ∷ 34 ∷ 229 ∷ 48 ∷ 245 ∷ 3 ∷ 211 ∷ 68 ∷ 218 ∷
    114 ∷ 113 ∷ 126 ∷ 24 ∷ 2 ∷ 104 ∷ 0 ∷ 0 ∷ 0 ∷ 70 ∷ 67 ∷ 80 ∷ 49 ∷ 1 ∷ 0 ∷ 1 ∷
    0 ∷ 18 ∷ 0 ∷ 8 ∷ 0 ∷ 2 ∷ 0 ∷ 2 ∷ 0 ∷ 4 ∷ 0 ∷ 0 ∷ 0 ∷ 0 ∷ 0 ∷ 0 ∷
    0 ∷ 0 ∷ 0 ∷ 0 ∷ 0 ∷ 0 ∷ 0 ∷ 0 ∷ 0 ∷ 128 ∷ 224 ∷ 144 ∷ 224 ∷ 14 ∷ 148 ∷ 0 ∷
    0 ∷ 0 ∷ 192 ∷ 8 ∷ 149 ∷ 1 ∷ 2 ∷ 3 ∷ 4 ∷ 5 ∷ 0 ∷ 10 ∷ 11 ∷ 12 ∷ 0 ∷ 97 ∷
    98 ∷ 99 ∷ 0 ∷ 16 ∷ 0 ∷ 0 ∷ 0 ∷ 0 ∷ 0 ∷ 17 ∷ 0 ∷ 2 ∷ 0 ∷ 0 ∷ 0 ∷ 0 ∷
    0 ∷ 0 ∷ 6 ∷ 1 ∷ 0 ∷ 5 ∷ 0 ∷ 2 ∷ 0 ∷ 0 ∷ 7 ∷ 1 ∷ 0 ∷ 5 ∷ 0 ∷ 4 ∷
    0 ∷ 0 ∷ 18 ∷ 18 ∷ 0 ∷ 0 ∷ 0 ∷ 8 ∷ 0 ∷ 0 ∷ 3 ∷ 0 ∷ 0 ∷ 0 ∷ 0 ∷ 2 ∷
    42 ∷ 0 ∷ 1 ∷ 0 ∷ 70 ∷ 67 ∷ 80 ∷ 49 ∷ 2 ∷ 0 ∷ 1 ∷ 0 ∷ 2 ∷ 0 ∷ 0 ∷ 0 ∷
    0 ∷ 0 ∷ 1 ∷ 0 ∷ 0 ∷ 0 ∷ 0 ∷ 0 ∷ 0 ∷ 0 ∷ 0 ∷ 0 ∷ 0 ∷ 0 ∷ 0 ∷ 0 ∷
    0 ∷ 0 ∷ 0 ∷ 0 ∷ 8 ∷ 149 ∷ 18 ∷ 0 ∷ 0 ∷ 0 ∷ 0 ∷ 0 ∷ 3 ∷ 0 ∷ 0 ∷ 4 ∷
    0 ∷ 0 ∷ 8 ∷ 0 ∷ 0 ∷ []

-- ---- rows

-- the slots of the release that boots, and which of its components came in with it
abbrev pub slots_of : Mote → List ℕ
slots_of s = map (λ p. p.slot) s.current.release.placed

abbrev pub marks_of : Mote → List Bool
marks_of s = map (λ p. p.fresh) s.current.release.placed

-- the update to release 2
abbrev pub second_update : List Frame
second_update = update_frames 1 both 2 replaced

-- the mote that has release 1
abbrev pub has_both : Mote
has_both = session_mote formatted_mote (update_frames 0 [] 1 both)

pub record FirstUpdate : Type 0 where
  -- on the line, in 245 bytes
  pub bytes : stream_of (update_frames 0 [] 1 both) ≡ first_update_bytes
  pub count : length first_update_bytes ≡ 245
  -- a mote that has the release gets END alone
  pub none : stream_of (update_frames 1 both 1 both) ≡ 8 ∷ 0 ∷ 0 ∷ []
  pub answers : answers_from formatted_mote (update_frames 0 [] 1 both) ≡ ManifestIs 1 0 ∷ Piece 0 0 ∷ Piece 1 0 ∷ Linked 1 ∷ Committed 1 ∷ Ended ∷ []
  -- broken off behind its first piece, and behind LINK, and then the whole of it
  pub again : answers_from formatted_mote (take 2 (update_frames 0 [] 1 both) ++ update_frames 0 [] 1 both) ≡ ManifestIs 1 0 ∷ Piece 0 0 ∷ update_answers [] 1 both
  pub again_linked : answers_from formatted_mote (take 4 (update_frames 0 [] 1 both) ++ update_frames 0 [] 1 both)
      ≡ ManifestIs 1 0 ∷ Piece 0 0 ∷ Piece 1 0 ∷ Linked 1 ∷ update_answers [] 1 both
  -- both came in, by slots 0 and 1
  pub slots : slots_of (mote_from formatted_mote (update_frames 0 [] 1 both)) ≡ 0 ∷ 1 ∷ []
  pub marks : marks_of (mote_from formatted_mote (update_frames 0 [] 1 both)) ≡ true ∷ true ∷ []

-- over the mote that has release 1
pub record NextUpdates : Type 0 where
  -- two pieces of the component that is new, and none of the one that is held
  pub replaced : session_answers has_both second_update
      ≡ Booted 1 ∷ ManifestIs 2 1 ∷ Piece 0 0 ∷ Piece 0 1 ∷ Linked 2 ∷ Committed 2 ∷ Ended ∷ []
  -- what is held keeps slot 0, and the new one comes in by slot 1, which no held component has
  pub slots : slots_of (session_mote has_both second_update) ≡ 1 ∷ 0 ∷ []
  pub marks : marks_of (session_mote has_both second_update) ≡ true ∷ false ∷ []
  -- the same where the inbox was overwritten meanwhile: what is held isn't looked for there
  pub overwritten : session_answers (record has_both { inbox = replicate 16 (replicate 9984 255) }) second_update
      ≡ Booted 1 ∷ ManifestIs 2 1 ∷ Piece 0 0 ∷ Piece 0 1 ∷ Linked 2 ∷ Committed 2 ∷ Ended ∷ []
  -- the same components in another order: no piece
  pub turned : session_answers has_both (update_frames 1 both 2 (reverse both))
      ≡ Booted 1 ∷ ManifestIs 2 2 ∷ Linked 2 ∷ Committed 2 ∷ Ended ∷ []
  -- why one version has to be one package: the other package isn't sent, and the mote, to which it is another entry, hasn't it
  pub disagreeing : session_answers has_both (update_frames 1 both 2 disagreeing)
      ≡ Booted 1 ∷ ManifestIs 2 1 ∷ Missing 1 ∷ NotLinked ∷ Ended ∷ []

-- the conditions on an update can be met
pub record UpdatesExist : Type 0 where
  pub first : IsUpdate 0 [] 1 both
  pub second : IsUpdate 1 both 2 replaced
