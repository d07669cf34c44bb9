-- laws on forms and trees, for the crates above too
pub mod FormLaws
pub mod TreeLaws
pub mod TreePlaceLaws
mod NestingLemmas
mod CommentLemmas
mod TokenLemmas
mod CountLemmas
mod RiseLemmas
mod FaultLemmas
mod ReadingLemmas
mod SpanLemmas
mod TokenLaws
mod FormsOneLaws
mod FaultOneLaws
mod ReadsLaws
mod WordLaws
mod CapitalLemmas
