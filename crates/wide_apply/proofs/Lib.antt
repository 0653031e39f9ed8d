pub mod ApartLemmas
pub mod ApplyLemmas
pub mod BackLemmas
mod Examples
mod WideExamples
pub mod FairRuns
pub mod FiledLemmas
mod FlatWaves
pub mod MadeWaves
pub mod WaveNumbers
pub mod LocalTurns
pub mod Sent
pub mod Permuted
pub mod SerialRuns
pub mod ShareLemmas
pub mod SortLemmas
pub mod TakingLemmas
pub mod WaveLemmas
pub mod WideFair
pub mod WideLaw
pub mod WidePermutation
pub mod WideSentence
