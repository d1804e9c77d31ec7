-- Worked runs of the mote machine, checked by computing. The digests are those that `sha256sum` prints.
use Rattle.std.proofs.Common.{◌≡◌, ℕ, zero, suc, ◌+◌, List, [], ◌∷◌, ◌++◌, refl, replicate, take, drop, map}
use Rattle.std.specs.List.{range_with_len}
use Rattle.sha2.specs.Sha256.{sha256, digest_bytes, hash_after, compress, rounds, schedule, first_words}
use Rattle.component_package.specs.declared.answer.Answer.TheVariants.{Booted, Status, NoManifest, BadFrame, Aborted, Ended, ManifestIs, Piece, Linked, Committed, Held, BadPiece, Missing, NotLinked, Reboot, Stale, BadManifest}
use Rattle.component_package.specs.declared.answer.Answer.{Answer}
use Rattle.component_package.specs.packages.Numbers.{u16_bytes}
use Rattle.component_package.specs.link.Link.{link_cause}
use Rattle.component_package.specs.mote.Page.{filled_page}
use Rattle.component_package.specs.mote.Frames.{Frame}
use Rattle.component_package.specs.packages.Manifest.{Release, StoredRelease, release_in}
use Rattle.component_package.specs.mote.Store.{slots_for}
use Rattle.component_package.specs.mote.Machine.{Mote, step, mote_from, session_answers}
use Rattle.definition_rows.specs.Samples.{p, q, manifest, frame, bare, formatted}

-- nothing comes in
nothing : session_answers formatted (bare 6 ∷ bare 3 ∷ bare 4 ∷ frame 2 (0 ∷ 0 ∷ 1 ∷ []) ∷ bare 9 ∷ frame 3 (0 ∷ []) ∷ bare 7 ∷ bare 8 ∷ []) ≡
    Booted 0 ∷ Status 0 0 0 ∷ NoManifest ∷ NoManifest ∷ NoManifest ∷ BadFrame 9 ∷ BadFrame 3 ∷ Aborted ∷ Ended ∷ []
unfolding sha256 digest_bytes hash_after compress rounds schedule first_words link_cause filled_page
nothing = refl

-- the whole update
update : session_answers formatted (frame 1 manifest ∷ frame 2 (0 ∷ 0 ∷ p) ∷ frame 2 (1 ∷ 0 ∷ q) ∷ bare 3 ∷ bare 4 ∷ bare 5 ∷ []) ≡
    Booted 0 ∷ ManifestIs 1 0 ∷ Piece 0 0 ∷ Piece 1 0 ∷ Linked 1 ∷ Committed 1 ∷ Booted 1 ∷ []
unfolding sha256 digest_bytes hash_after compress rounds schedule first_words link_cause filled_page
update = refl

-- ---- what comes twice, too early or too late

-- the manifest and the pieces once more, in the other order, and LINK
abbrev again : List Frame
again = frame 1 manifest ∷ frame 2 (1 ∷ 0 ∷ q) ∷ frame 2 (0 ∷ 0 ∷ p) ∷ bare 3 ∷ []

-- the answers repeat
repeated : session_answers formatted (frame 1 manifest ∷ frame 2 (0 ∷ 0 ∷ p) ∷ frame 2 (1 ∷ 0 ∷ q) ∷ bare 3 ∷ (again ++ again)) ≡
    Booted 0 ∷ ManifestIs 1 0 ∷ Piece 0 0 ∷ Piece 1 0 ∷ Linked 1 ∷ ManifestIs 1 0 ∷ Piece 1 0 ∷ Piece 0 0 ∷ Linked 1 ∷ ManifestIs 1 0 ∷ Piece 1 0 ∷ Piece 0 0 ∷ Linked 1 ∷ []
unfolding sha256 digest_bytes hash_after compress rounds schedule first_words link_cause filled_page
repeated = refl

-- a piece before its manifest, LINK before the second piece, COMMIT before LINK, and pieces that are none: an empty one, one of no entry, one of no page, a
-- short one
too_early : session_answers formatted
    (frame 2 (0 ∷ 0 ∷ p) ∷ frame 1 manifest ∷ frame 2 (0 ∷ 0 ∷ p) ∷ bare 3 ∷ bare 4 ∷ frame 2 (0 ∷ 0 ∷ []) ∷ frame 2 (2 ∷ 0 ∷ q) ∷ frame 2 (1 ∷ 1 ∷ q) ∷ frame 2 (1 ∷ 0 ∷ take 39 q) ∷ bare 6 ∷ []) ≡
    Booted 0 ∷ NoManifest ∷ ManifestIs 1 0 ∷ Piece 0 0 ∷ Missing 1 ∷ NotLinked ∷ BadPiece ∷ BadPiece ∷ BadPiece ∷ BadPiece ∷ Status 0 1 1 ∷ []
unfolding sha256 digest_bytes hash_after compress rounds schedule first_words link_cause filled_page
too_early = refl

-- what a standing commit answers, and what a manifest of the release that boots does
too_late : session_answers formatted
    (frame 1 manifest ∷ frame 2 (0 ∷ 0 ∷ p) ∷ frame 2 (1 ∷ 0 ∷ q) ∷ bare 3 ∷ bare 6 ∷ bare 4 ∷ frame 1 manifest ∷ frame 2 (0 ∷ 0 ∷ p) ∷ bare 3 ∷ bare 7 ∷ bare 4 ∷ bare 6 ∷ bare 5 ∷ frame 1 manifest ∷ bare 6 ∷ []) ≡
    Booted 0 ∷ ManifestIs 1 0 ∷ Piece 0 0 ∷ Piece 1 0 ∷ Linked 1 ∷ Status 0 1 2 ∷ Committed 1 ∷ Reboot 1 ∷ Reboot 1 ∷ Reboot 1 ∷ Reboot 1 ∷ Committed 1 ∷ Status 1 0 3 ∷ Booted 1 ∷ Stale 1 ∷ Status 1 0 0 ∷ []
unfolding sha256 digest_bytes hash_after compress rounds schedule first_words link_cause filled_page
too_late = refl

-- a manifest that is cut short
short_manifest : session_answers formatted (frame 1 (take 4 manifest) ∷ []) ≡ Booted 0 ∷ BadManifest 1 ∷ []
short_manifest = refl

-- the next session after a cut in the commit's gate: the commit stands, or it has to come again
abbrev linked_mote : Mote
linked_mote = mote_from formatted (frame 1 manifest ∷ frame 2 (0 ∷ 0 ∷ p) ∷ frame 2 (1 ∷ 0 ∷ q) ∷ bare 3 ∷ [])

-- both outcomes
cut_commit : (session_answers (step linked_mote (bare 4)).mote (bare 6 ∷ []) ≡ Booted 1 ∷ Status 1 0 0 ∷ []) × (session_answers linked_mote (bare 6 ∷ bare 4 ∷ []) ≡ Booted 0 ∷ Status 0 1 2 ∷ Committed 1 ∷ [])
unfolding sha256 digest_bytes hash_after compress rounds schedule first_words link_cause filled_page
cut_commit = (refl, refl)

-- ---- a replacement among five components

-- the header of a package with so much code, so many exports and relocations, and no data
abbrev header : ℕ → ℕ → ℕ → ℕ → ℕ → List ℕ
header component version code exports relocs =
    70 ∷ 67 ∷ 80 ∷ 49 ∷ (u16_bytes component ++ u16_bytes version ++ u16_bytes code ++ 0 ∷ 0 ∷ 0 ∷ 0 ∷ (u16_bytes exports ++ u16_bytes relocs ++ replicate 14 0))

-- 1,000 bytes of code; it calls symbol 16
abbrev first : List ℕ
first = header 1 1 1000 0 1 ++ (14 ∷ 148 ∷ 0 ∷ 0 ∷ replicate 996 0) ++ 0 ∷ 0 ∷ 0 ∷ 18 ∷ 16 ∷ 0 ∷ 0 ∷ 0 ∷ []

-- its digest, and so for those below
abbrev digest_first : List ℕ
digest_first = 121 ∷ 217 ∷ 216 ∷ 238 ∷ 26 ∷ 234 ∷ 194 ∷ 13 ∷ 153 ∷ 215 ∷ 125 ∷ 132 ∷ 92 ∷ 142 ∷ 194 ∷ 129 ∷ 200 ∷ 58 ∷ 107 ∷ 28 ∷ 1 ∷ 253 ∷ 108 ∷ 155 ∷ 109 ∷ 150 ∷ 184 ∷ 222 ∷ 83 ∷ 38 ∷ 99 ∷ 125 ∷ []

-- 1,000 bytes of code
abbrev second : List ℕ
second = header 2 1 1000 0 0 ++ (2 ∷ 0 ∷ replicate 998 0)

abbrev digest_second : List ℕ
digest_second = 248 ∷ 77 ∷ 27 ∷ 198 ∷ 131 ∷ 177 ∷ 65 ∷ 145 ∷ 91 ∷ 4 ∷ 36 ∷ 223 ∷ 74 ∷ 251 ∷ 26 ∷ 27 ∷ 46 ∷ 161 ∷ 69 ∷ 252 ∷ 30 ∷ 78 ∷ 108 ∷ 182 ∷ 19 ∷ 60 ∷ 220 ∷ 87 ∷ 52 ∷ 100 ∷ 187 ∷ 211 ∷ []

-- 1,000 bytes of code
abbrev third : List ℕ
third = header 3 1 1000 0 0 ++ (3 ∷ 0 ∷ replicate 998 0)

abbrev digest_third : List ℕ
digest_third = 133 ∷ 253 ∷ 126 ∷ 238 ∷ 202 ∷ 56 ∷ 27 ∷ 186 ∷ 75 ∷ 89 ∷ 113 ∷ 195 ∷ 250 ∷ 218 ∷ 47 ∷ 118 ∷ 193 ∷ 212 ∷ 102 ∷ 155 ∷ 67 ∷ 24 ∷ 69 ∷ 74 ∷ 115 ∷ 122 ∷ 74 ∷ 16 ∷ 28 ∷ 105 ∷ 41 ∷ 242 ∷ []

-- 1,000 bytes of code
abbrev fourth : List ℕ
fourth = header 4 1 1000 0 0 ++ (4 ∷ 0 ∷ replicate 998 0)

abbrev digest_fourth : List ℕ
digest_fourth = 248 ∷ 36 ∷ 230 ∷ 94 ∷ 243 ∷ 203 ∷ 29 ∷ 1 ∷ 98 ∷ 44 ∷ 197 ∷ 158 ∷ 143 ∷ 238 ∷ 180 ∷ 241 ∷ 235 ∷ 136 ∷ 101 ∷ 6 ∷ 100 ∷ 238 ∷ 1 ∷ 122 ∷ 194 ∷ 189 ∷ 5 ∷ 155 ∷ 95 ∷ 124 ∷ 238 ∷ 52 ∷ []

-- 1,000 bytes of code; it exports symbol 16
abbrev fifth : List ℕ
fifth = header 5 1 1000 1 0 ++ (5 ∷ 0 ∷ replicate 998 0) ++ 16 ∷ 0 ∷ 0 ∷ 0 ∷ 0 ∷ 0 ∷ []

abbrev digest_fifth : List ℕ
digest_fifth = 204 ∷ 253 ∷ 39 ∷ 152 ∷ 90 ∷ 129 ∷ 70 ∷ 209 ∷ 194 ∷ 136 ∷ 21 ∷ 218 ∷ 44 ∷ 192 ∷ 108 ∷ 46 ∷ 1 ∷ 233 ∷ 70 ∷ 205 ∷ 165 ∷ 240 ∷ 102 ∷ 117 ∷ 170 ∷ 189 ∷ 156 ∷ 82 ∷ 166 ∷ 82 ∷ 192 ∷ 20 ∷ []

-- 1,300 bytes of code, in the place of the third
abbrev third_later : List ℕ
third_later = header 3 2 1300 0 0 ++ (3 ∷ 0 ∷ replicate 1298 0)

abbrev digest_third_later : List ℕ
digest_third_later = 81 ∷ 251 ∷ 14 ∷ 158 ∷ 228 ∷ 40 ∷ 145 ∷ 181 ∷ 171 ∷ 115 ∷ 138 ∷ 75 ∷ 20 ∷ 225 ∷ 229 ∷ 184 ∷ 93 ∷ 246 ∷ 31 ∷ 15 ∷ 153 ∷ 80 ∷ 220 ∷ 182 ∷ 159 ∷ 56 ∷ 65 ∷ 231 ∷ 25 ∷ 70 ∷ 53 ∷ 83 ∷ []

-- an entry of a manifest
abbrev entry : ℕ → ℕ → ℕ → List ℕ → List ℕ
entry component version length digest = u16_bytes component ++ u16_bytes version ++ u16_bytes length ++ digest

-- the release of all five
abbrev manifest_of_five : List ℕ
manifest_of_five = 1 ∷ 0 ∷ 0 ∷ 0 ∷ 5 ∷ (entry 1 1 1040 digest_first ++ entry 2 1 1032 digest_second ++ entry 3 1 1032 digest_third ++ entry 4 1 1032 digest_fourth ++ entry 5 1 1038 digest_fifth)

-- the one that replaces the third
abbrev manifest_of_later : List ℕ
manifest_of_later = 2 ∷ 0 ∷ 0 ∷ 0 ∷ 5 ∷ (entry 1 1 1040 digest_first ++ entry 2 1 1032 digest_second ++ entry 3 2 1332 digest_third_later ++ entry 4 1 1032 digest_fourth ++ entry 5 1 1038 digest_fifth)

-- so many pieces of a package from one page on
abbrev pieces : ℕ → ℕ → ℕ → List ℕ → List Frame
pieces k page zero b = []
pieces k page (suc n) b = frame 2 (k ∷ page ∷ take 256 b) ∷ pieces k (page + 1) n (drop 256 b)

-- the answers to so many pieces
abbrev stored : ℕ → ℕ → ℕ → List Answer
stored k page zero = []
stored k page (suc n) = Piece k page ∷ stored k (page + 1) n

-- the mote that boots the five
abbrev five_update : List Frame
five_update = frame 1 manifest_of_five ∷ (pieces 0 0 5 first ++ pieces 1 0 5 second ++ pieces 2 0 5 third ++ pieces 3 0 5 fourth ++ pieces 4 0 5 fifth ++ bare 3 ∷ bare 4 ∷ bare 5 ∷ [])

-- one of five is replaced: the others are held, and a piece of one is not taken
replacement : session_answers formatted (five_update ++ frame 1 manifest_of_later ∷ (frame 2 (0 ∷ 0 ∷ take 256 first) ∷ pieces 2 0 6 third_later ++ bare 3 ∷ bare 4 ∷ bare 5 ∷ [])) ≡
    Booted 0 ∷ ManifestIs 1 0 ∷ (stored 0 0 5 ++ stored 1 0 5 ++ stored 2 0 5 ++ stored 3 0 5 ++ stored 4 0 5 ++ Linked 1 ∷ Committed 1 ∷ Booted 1 ∷ ManifestIs 2 4 ∷ Held 0 ∷ (stored 2 0 6 ++ Linked 2 ∷ Committed 2 ∷ Booted 2 ∷ []))
unfolding sha256 digest_bytes hash_after compress rounds schedule first_words link_cause filled_page
replacement = refl

-- ---- sixteen components replaced by sixteen others

-- the packages of a return alone, by component and version
abbrev small : ℕ → ℕ → List ℕ
small component version = header component version 2 0 0 ++ 8 ∷ 149 ∷ []

-- the digests of version 1, by component
abbrev digests_1 : List (List ℕ)
digests_1 =
    (231 ∷ 157 ∷ 211 ∷ 94 ∷ 253 ∷ 252 ∷ 79 ∷ 139 ∷ 3 ∷ 141 ∷ 10 ∷ 73 ∷ 96 ∷ 175 ∷ 202 ∷ 100 ∷ 61 ∷ 41 ∷ 15 ∷ 137 ∷ 133 ∷ 202 ∷ 21 ∷ 43 ∷ 30 ∷ 149 ∷ 188 ∷ 124 ∷ 102 ∷ 252 ∷ 6 ∷ 37 ∷ []) ∷
    (231 ∷ 97 ∷ 218 ∷ 76 ∷ 199 ∷ 140 ∷ 70 ∷ 168 ∷ 244 ∷ 9 ∷ 157 ∷ 72 ∷ 37 ∷ 127 ∷ 101 ∷ 251 ∷ 197 ∷ 251 ∷ 28 ∷ 3 ∷ 157 ∷ 170 ∷ 47 ∷ 139 ∷ 9 ∷ 114 ∷ 239 ∷ 72 ∷ 106 ∷ 110 ∷ 188 ∷ 17 ∷ []) ∷
    (252 ∷ 142 ∷ 152 ∷ 34 ∷ 26 ∷ 236 ∷ 119 ∷ 138 ∷ 76 ∷ 122 ∷ 251 ∷ 184 ∷ 113 ∷ 191 ∷ 35 ∷ 28 ∷ 135 ∷ 160 ∷ 97 ∷ 144 ∷ 28 ∷ 121 ∷ 25 ∷ 142 ∷ 118 ∷ 244 ∷ 118 ∷ 137 ∷ 39 ∷ 49 ∷ 235 ∷ 221 ∷ []) ∷
    (212 ∷ 106 ∷ 20 ∷ 251 ∷ 237 ∷ 253 ∷ 25 ∷ 170 ∷ 247 ∷ 109 ∷ 15 ∷ 239 ∷ 153 ∷ 67 ∷ 26 ∷ 58 ∷ 240 ∷ 4 ∷ 45 ∷ 94 ∷ 224 ∷ 72 ∷ 145 ∷ 77 ∷ 5 ∷ 230 ∷ 15 ∷ 79 ∷ 205 ∷ 185 ∷ 19 ∷ 130 ∷ []) ∷
    (191 ∷ 50 ∷ 79 ∷ 98 ∷ 211 ∷ 160 ∷ 78 ∷ 111 ∷ 101 ∷ 82 ∷ 186 ∷ 219 ∷ 80 ∷ 137 ∷ 158 ∷ 60 ∷ 62 ∷ 23 ∷ 101 ∷ 165 ∷ 32 ∷ 228 ∷ 120 ∷ 218 ∷ 37 ∷ 149 ∷ 181 ∷ 91 ∷ 104 ∷ 174 ∷ 81 ∷ 235 ∷ []) ∷
    (117 ∷ 189 ∷ 81 ∷ 139 ∷ 162 ∷ 124 ∷ 58 ∷ 89 ∷ 49 ∷ 241 ∷ 19 ∷ 54 ∷ 158 ∷ 26 ∷ 86 ∷ 73 ∷ 206 ∷ 173 ∷ 69 ∷ 69 ∷ 22 ∷ 234 ∷ 12 ∷ 35 ∷ 220 ∷ 41 ∷ 83 ∷ 216 ∷ 198 ∷ 29 ∷ 71 ∷ 171 ∷ []) ∷
    (156 ∷ 182 ∷ 22 ∷ 166 ∷ 170 ∷ 188 ∷ 169 ∷ 122 ∷ 121 ∷ 85 ∷ 107 ∷ 121 ∷ 154 ∷ 221 ∷ 196 ∷ 226 ∷ 109 ∷ 238 ∷ 129 ∷ 189 ∷ 47 ∷ 9 ∷ 32 ∷ 143 ∷ 205 ∷ 38 ∷ 206 ∷ 115 ∷ 71 ∷ 97 ∷ 224 ∷ 119 ∷ []) ∷
    (23 ∷ 27 ∷ 18 ∷ 26 ∷ 97 ∷ 89 ∷ 15 ∷ 173 ∷ 34 ∷ 243 ∷ 95 ∷ 175 ∷ 255 ∷ 137 ∷ 115 ∷ 145 ∷ 196 ∷ 1 ∷ 198 ∷ 177 ∷ 112 ∷ 17 ∷ 23 ∷ 81 ∷ 16 ∷ 11 ∷ 182 ∷ 138 ∷ 79 ∷ 49 ∷ 174 ∷ 47 ∷ []) ∷
    (107 ∷ 159 ∷ 188 ∷ 96 ∷ 85 ∷ 236 ∷ 232 ∷ 95 ∷ 153 ∷ 56 ∷ 10 ∷ 83 ∷ 7 ∷ 66 ∷ 150 ∷ 90 ∷ 119 ∷ 1 ∷ 96 ∷ 65 ∷ 170 ∷ 176 ∷ 122 ∷ 176 ∷ 107 ∷ 143 ∷ 147 ∷ 58 ∷ 160 ∷ 199 ∷ 175 ∷ 76 ∷ []) ∷
    (212 ∷ 251 ∷ 126 ∷ 125 ∷ 252 ∷ 147 ∷ 162 ∷ 111 ∷ 1 ∷ 173 ∷ 161 ∷ 12 ∷ 148 ∷ 159 ∷ 181 ∷ 155 ∷ 213 ∷ 217 ∷ 157 ∷ 142 ∷ 86 ∷ 242 ∷ 129 ∷ 158 ∷ 125 ∷ 199 ∷ 54 ∷ 237 ∷ 158 ∷ 181 ∷ 215 ∷ 97 ∷ []) ∷
    (222 ∷ 16 ∷ 1 ∷ 177 ∷ 228 ∷ 88 ∷ 85 ∷ 183 ∷ 29 ∷ 199 ∷ 55 ∷ 54 ∷ 209 ∷ 17 ∷ 131 ∷ 199 ∷ 203 ∷ 230 ∷ 229 ∷ 128 ∷ 171 ∷ 146 ∷ 10 ∷ 110 ∷ 225 ∷ 173 ∷ 124 ∷ 117 ∷ 186 ∷ 239 ∷ 120 ∷ 145 ∷ []) ∷
    (219 ∷ 21 ∷ 110 ∷ 27 ∷ 102 ∷ 72 ∷ 235 ∷ 41 ∷ 151 ∷ 56 ∷ 213 ∷ 191 ∷ 37 ∷ 113 ∷ 125 ∷ 35 ∷ 117 ∷ 207 ∷ 129 ∷ 72 ∷ 145 ∷ 82 ∷ 217 ∷ 201 ∷ 97 ∷ 53 ∷ 78 ∷ 155 ∷ 67 ∷ 240 ∷ 57 ∷ 178 ∷ []) ∷
    (42 ∷ 6 ∷ 54 ∷ 140 ∷ 180 ∷ 18 ∷ 65 ∷ 160 ∷ 96 ∷ 235 ∷ 177 ∷ 6 ∷ 179 ∷ 86 ∷ 40 ∷ 201 ∷ 236 ∷ 56 ∷ 57 ∷ 61 ∷ 36 ∷ 89 ∷ 125 ∷ 39 ∷ 106 ∷ 133 ∷ 44 ∷ 128 ∷ 154 ∷ 29 ∷ 158 ∷ 59 ∷ []) ∷
    (111 ∷ 177 ∷ 119 ∷ 213 ∷ 231 ∷ 17 ∷ 82 ∷ 137 ∷ 32 ∷ 221 ∷ 170 ∷ 245 ∷ 163 ∷ 171 ∷ 235 ∷ 215 ∷ 131 ∷ 205 ∷ 39 ∷ 217 ∷ 16 ∷ 223 ∷ 173 ∷ 176 ∷ 40 ∷ 99 ∷ 9 ∷ 171 ∷ 1 ∷ 62 ∷ 233 ∷ 70 ∷ []) ∷
    (126 ∷ 31 ∷ 227 ∷ 116 ∷ 130 ∷ 173 ∷ 203 ∷ 156 ∷ 30 ∷ 44 ∷ 39 ∷ 74 ∷ 255 ∷ 146 ∷ 205 ∷ 63 ∷ 5 ∷ 243 ∷ 232 ∷ 148 ∷ 204 ∷ 52 ∷ 69 ∷ 243 ∷ 162 ∷ 154 ∷ 129 ∷ 164 ∷ 211 ∷ 231 ∷ 117 ∷ 218 ∷ []) ∷
    (46 ∷ 196 ∷ 27 ∷ 57 ∷ 242 ∷ 45 ∷ 126 ∷ 190 ∷ 140 ∷ 124 ∷ 3 ∷ 71 ∷ 118 ∷ 80 ∷ 21 ∷ 120 ∷ 41 ∷ 122 ∷ 139 ∷ 228 ∷ 140 ∷ 93 ∷ 1 ∷ 253 ∷ 238 ∷ 35 ∷ 241 ∷ 23 ∷ 181 ∷ 103 ∷ 179 ∷ 88 ∷ []) ∷
    []

-- the digests of version 2, by component
abbrev digests_2 : List (List ℕ)
digests_2 =
    (66 ∷ 24 ∷ 17 ∷ 113 ∷ 98 ∷ 32 ∷ 145 ∷ 85 ∷ 178 ∷ 72 ∷ 159 ∷ 102 ∷ 89 ∷ 80 ∷ 232 ∷ 248 ∷ 193 ∷ 222 ∷ 130 ∷ 99 ∷ 240 ∷ 252 ∷ 12 ∷ 117 ∷ 91 ∷ 7 ∷ 178 ∷ 229 ∷ 15 ∷ 9 ∷ 22 ∷ 7 ∷ []) ∷
    (120 ∷ 156 ∷ 208 ∷ 39 ∷ 119 ∷ 3 ∷ 17 ∷ 255 ∷ 152 ∷ 216 ∷ 201 ∷ 175 ∷ 30 ∷ 156 ∷ 82 ∷ 84 ∷ 234 ∷ 14 ∷ 148 ∷ 39 ∷ 131 ∷ 164 ∷ 115 ∷ 141 ∷ 227 ∷ 122 ∷ 209 ∷ 182 ∷ 48 ∷ 3 ∷ 98 ∷ 217 ∷ []) ∷
    (118 ∷ 1 ∷ 214 ∷ 42 ∷ 32 ∷ 122 ∷ 238 ∷ 36 ∷ 118 ∷ 156 ∷ 135 ∷ 149 ∷ 95 ∷ 144 ∷ 237 ∷ 138 ∷ 105 ∷ 219 ∷ 185 ∷ 32 ∷ 139 ∷ 188 ∷ 212 ∷ 29 ∷ 187 ∷ 5 ∷ 61 ∷ 149 ∷ 37 ∷ 62 ∷ 120 ∷ 229 ∷ []) ∷
    (180 ∷ 56 ∷ 225 ∷ 62 ∷ 84 ∷ 24 ∷ 125 ∷ 254 ∷ 70 ∷ 62 ∷ 11 ∷ 86 ∷ 243 ∷ 123 ∷ 110 ∷ 182 ∷ 69 ∷ 153 ∷ 62 ∷ 179 ∷ 9 ∷ 40 ∷ 46 ∷ 88 ∷ 139 ∷ 151 ∷ 34 ∷ 84 ∷ 115 ∷ 102 ∷ 46 ∷ 82 ∷ []) ∷
    (0 ∷ 253 ∷ 153 ∷ 86 ∷ 81 ∷ 253 ∷ 169 ∷ 201 ∷ 178 ∷ 196 ∷ 82 ∷ 74 ∷ 98 ∷ 196 ∷ 2 ∷ 77 ∷ 11 ∷ 161 ∷ 168 ∷ 163 ∷ 131 ∷ 210 ∷ 145 ∷ 103 ∷ 230 ∷ 103 ∷ 67 ∷ 168 ∷ 255 ∷ 16 ∷ 115 ∷ 100 ∷ []) ∷
    (239 ∷ 2 ∷ 14 ∷ 33 ∷ 84 ∷ 191 ∷ 119 ∷ 33 ∷ 199 ∷ 130 ∷ 192 ∷ 186 ∷ 122 ∷ 59 ∷ 161 ∷ 121 ∷ 84 ∷ 53 ∷ 222 ∷ 18 ∷ 117 ∷ 129 ∷ 216 ∷ 221 ∷ 53 ∷ 193 ∷ 174 ∷ 73 ∷ 205 ∷ 1 ∷ 92 ∷ 76 ∷ []) ∷
    (35 ∷ 198 ∷ 107 ∷ 34 ∷ 136 ∷ 159 ∷ 138 ∷ 219 ∷ 153 ∷ 239 ∷ 245 ∷ 124 ∷ 120 ∷ 146 ∷ 197 ∷ 32 ∷ 197 ∷ 125 ∷ 147 ∷ 164 ∷ 56 ∷ 151 ∷ 238 ∷ 60 ∷ 93 ∷ 76 ∷ 33 ∷ 97 ∷ 107 ∷ 206 ∷ 87 ∷ 35 ∷ []) ∷
    (88 ∷ 105 ∷ 170 ∷ 229 ∷ 35 ∷ 33 ∷ 117 ∷ 209 ∷ 175 ∷ 244 ∷ 13 ∷ 57 ∷ 190 ∷ 29 ∷ 25 ∷ 239 ∷ 191 ∷ 113 ∷ 236 ∷ 33 ∷ 17 ∷ 104 ∷ 173 ∷ 21 ∷ 156 ∷ 226 ∷ 207 ∷ 248 ∷ 39 ∷ 232 ∷ 228 ∷ 160 ∷ []) ∷
    (219 ∷ 91 ∷ 190 ∷ 218 ∷ 132 ∷ 177 ∷ 7 ∷ 253 ∷ 193 ∷ 180 ∷ 253 ∷ 172 ∷ 73 ∷ 126 ∷ 241 ∷ 125 ∷ 18 ∷ 123 ∷ 231 ∷ 4 ∷ 57 ∷ 245 ∷ 128 ∷ 18 ∷ 16 ∷ 108 ∷ 37 ∷ 169 ∷ 85 ∷ 72 ∷ 173 ∷ 240 ∷ []) ∷
    (248 ∷ 177 ∷ 30 ∷ 76 ∷ 78 ∷ 115 ∷ 15 ∷ 73 ∷ 54 ∷ 12 ∷ 141 ∷ 125 ∷ 104 ∷ 103 ∷ 69 ∷ 74 ∷ 152 ∷ 193 ∷ 46 ∷ 212 ∷ 160 ∷ 238 ∷ 2 ∷ 127 ∷ 36 ∷ 225 ∷ 11 ∷ 157 ∷ 98 ∷ 233 ∷ 8 ∷ 90 ∷ []) ∷
    (53 ∷ 174 ∷ 74 ∷ 234 ∷ 17 ∷ 144 ∷ 166 ∷ 3 ∷ 101 ∷ 159 ∷ 240 ∷ 31 ∷ 241 ∷ 5 ∷ 84 ∷ 214 ∷ 168 ∷ 13 ∷ 103 ∷ 162 ∷ 90 ∷ 185 ∷ 15 ∷ 98 ∷ 126 ∷ 70 ∷ 164 ∷ 143 ∷ 175 ∷ 135 ∷ 223 ∷ 58 ∷ []) ∷
    (180 ∷ 103 ∷ 125 ∷ 21 ∷ 90 ∷ 95 ∷ 106 ∷ 205 ∷ 20 ∷ 116 ∷ 82 ∷ 170 ∷ 247 ∷ 150 ∷ 113 ∷ 176 ∷ 33 ∷ 176 ∷ 97 ∷ 224 ∷ 38 ∷ 114 ∷ 211 ∷ 136 ∷ 243 ∷ 200 ∷ 35 ∷ 126 ∷ 214 ∷ 60 ∷ 140 ∷ 40 ∷ []) ∷
    (140 ∷ 78 ∷ 103 ∷ 63 ∷ 48 ∷ 190 ∷ 145 ∷ 174 ∷ 177 ∷ 214 ∷ 174 ∷ 248 ∷ 188 ∷ 34 ∷ 253 ∷ 161 ∷ 31 ∷ 169 ∷ 148 ∷ 105 ∷ 117 ∷ 97 ∷ 243 ∷ 187 ∷ 235 ∷ 172 ∷ 57 ∷ 165 ∷ 135 ∷ 120 ∷ 198 ∷ 210 ∷ []) ∷
    (218 ∷ 236 ∷ 72 ∷ 72 ∷ 176 ∷ 157 ∷ 54 ∷ 248 ∷ 9 ∷ 136 ∷ 70 ∷ 210 ∷ 81 ∷ 135 ∷ 37 ∷ 220 ∷ 108 ∷ 210 ∷ 32 ∷ 33 ∷ 148 ∷ 121 ∷ 24 ∷ 13 ∷ 187 ∷ 121 ∷ 24 ∷ 255 ∷ 188 ∷ 203 ∷ 245 ∷ 187 ∷ []) ∷
    (30 ∷ 86 ∷ 110 ∷ 89 ∷ 90 ∷ 192 ∷ 242 ∷ 10 ∷ 104 ∷ 214 ∷ 158 ∷ 176 ∷ 255 ∷ 192 ∷ 250 ∷ 72 ∷ 68 ∷ 199 ∷ 127 ∷ 253 ∷ 161 ∷ 172 ∷ 228 ∷ 117 ∷ 235 ∷ 147 ∷ 151 ∷ 211 ∷ 72 ∷ 243 ∷ 137 ∷ 160 ∷ []) ∷
    (0 ∷ 46 ∷ 120 ∷ 190 ∷ 199 ∷ 115 ∷ 113 ∷ 57 ∷ 162 ∷ 149 ∷ 19 ∷ 118 ∷ 3 ∷ 7 ∷ 193 ∷ 179 ∷ 96 ∷ 81 ∷ 20 ∷ 187 ∷ 248 ∷ 214 ∷ 185 ∷ 180 ∷ 163 ∷ 152 ∷ 105 ∷ 154 ∷ 239 ∷ 110 ∷ 192 ∷ 191 ∷ []) ∷
    []

-- entries of components from one on
abbrev entries_from : ℕ → ℕ → List (List ℕ) → List ℕ
entries_from component version [] = []
entries_from component version (d ∷ ds) = entry component version 34 d ++ entries_from (component + 1) version ds

-- a release of sixteen
abbrev sixteen : ℕ → List (List ℕ) → List ℕ
sixteen release digests = release ∷ 0 ∷ 0 ∷ 0 ∷ 16 ∷ entries_from 1 release digests

-- a piece for each
abbrev small_pieces : ℕ → ℕ → ℕ → List Frame
small_pieces k version zero = []
small_pieces k version (suc n) = frame 2 (k ∷ 0 ∷ small (k + 1) version) ∷ small_pieces (k + 1) version n

-- and its answer
abbrev small_stored : ℕ → ℕ → List Answer
small_stored k zero = []
small_stored k (suc n) = Piece k 0 ∷ small_stored (k + 1) n

-- both updates
abbrev all_sixteen : List Frame
all_sixteen = frame 1 (sixteen 1 digests_1) ∷ (small_pieces 0 1 16 ++ bare 3 ∷ bare 4 ∷ bare 5 ∷ frame 1 (sixteen 2 digests_2) ∷ (small_pieces 0 2 16 ++ bare 3 ∷ bare 4 ∷ bare 5 ∷ []))

-- sixteen are replaced by sixteen others
replaced : session_answers formatted all_sixteen ≡
    Booted 0 ∷ ManifestIs 1 0 ∷ (small_stored 0 16 ++ Linked 1 ∷ Committed 1 ∷ Booted 1 ∷ ManifestIs 2 0 ∷ (small_stored 0 16 ++ Linked 2 ∷ Committed 2 ∷ Booted 2 ∷ []))
unfolding sha256 digest_bytes hash_after compress rounds schedule first_words link_cause filled_page
replaced = refl

-- the slots of a release over another
abbrev release_slots : Release → StoredRelease → List ℕ
release_slots r current = map (λ p. p.slot) (slots_for current r).placed

-- the first sixteen have slots 0 to 15, and the others over them slots 16 to 31
all_slots : (release_slots (release_in (sixteen 1 digests_1)) formatted.current ≡ range_with_len 0 16)
    × (release_slots (release_in (sixteen 2 digests_2)) (slots_for formatted.current (release_in (sixteen 1 digests_1))) ≡ range_with_len 16 16)
all_slots = (refl, refl)
