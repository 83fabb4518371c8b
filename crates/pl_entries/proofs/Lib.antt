mod Deciding
mod ProviderIds
